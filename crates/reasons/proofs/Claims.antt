-- The claims of tape_why's print. Assumes nothing.
use Rattle.reasons.specs.Claims.{Claims}
use Rattle.reasons.proofs.Prints.{tape_refused_prints, table_refused_prints, tape_prints, written_prints}
use Rattle.reasons.proofs.Fits.{print_fits}

pub the_claims : Claims
the_claims =
    record {
      tape_refused_prints = tape_refused_prints;
      table_refused_prints = table_refused_prints;
      tape_prints = tape_prints;
      written_prints = written_prints;
      print_fits = print_fits;
    }
