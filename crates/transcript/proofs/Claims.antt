-- The claims of the print and its pieces. Assumes nothing.
use Rattle.transcript.specs.Claims.{Claims}
use Rattle.transcript.proofs.Exact.{opens_exact}
use Rattle.transcript.proofs.Opens.{opens_as_printed}
use Rattle.transcript.proofs.Lines.{line_by_line}
use Rattle.transcript.proofs.Fits.{lines_fit}
use Rattle.transcript.proofs.Prints.{tape_refused_prints, table_refused_prints, tape_prints, written_prints}
use Rattle.transcript.proofs.Decimals.{decimal_back}
use Rattle.transcript.proofs.Ones.{one_opened, one_put, one_lined}

pub claims : Claims
claims =
    record {
      opens_exact = opens_exact;
      tape_refused_prints = tape_refused_prints;
      table_refused_prints = table_refused_prints;
      tape_prints = tape_prints;
      written_prints = written_prints;
      decimal_back = decimal_back;
      opens_as_printed = opens_as_printed;
      line_by_line = line_by_line;
      lines_fit = lines_fit;
      one_opened = one_opened;
      one_put = one_put;
      one_lined = one_lined;
    }
