-- The printed run, cases a to l and other single rows hold by computation. Assumes nothing.
use mathlib.Core.Path.{refl}
use Rattle.rules.specs.Words.{◌if◌else◌}
use Rattle.rules.specs.Table.{◌then◌, refuse}
use Rattle.rules.specs.Jobs.{key_at, before}
use Rattle.rules.specs.Calls.{refusal}
use Rattle.rules.specs.Late.{is_past}
use Rattle.rules.specs.Number.{groups_in, joined, rest_of, number_of, bounded_at}
use Rattle.rules.specs.Tape.{record_bytes, line_bytes, lines_bytes, table_bytes, records_bytes, tape_of, call_at, ticks_at, record_at, line_at, lines_at, table_at, records_in, read_tape}
use Rattle.rules.specs.Print.{decimal_in, spaced, comma_tasks, tasks_text, answer_text, table_text, tape_text, calls_text, opening, transcript}
use Rattle.rules.specs.Why.{reason, why}
use Rattle.rules.specs.WhyPrint.{why_text, why_lines_from, why_transcript}
use Rattle.rules.specs.Cases.{Cases}

pub cases : Cases
unfolding key_at before refusal is_past ◌if◌else◌ ◌then◌ refuse groups_in joined rest_of number_of bounded_at record_bytes line_bytes lines_bytes table_bytes records_bytes tape_of call_at ticks_at record_at line_at lines_at table_at records_in read_tape decimal_in spaced comma_tasks tasks_text answer_text table_text tape_text calls_text opening transcript reason why why_text why_lines_from why_transcript
cases =
    record {
      printed_written = refl;
      printed_read = refl;
      printed_table = refl;
      printed_run = refl;
      printed_print = refl;
      printed_counts = refl;
      print_nothing_read = refl;
      print_count_33 = refl;
      print_no_record = refl;
      print_bad_record = refl;
      print_count_32 = refl;
      print_late = refl;
      print_refused_ticks = refl;
      print_one_named = refl;
      print_none_named = refl;
      print_longest = refl;
      print_too_long = refl;
      a_stays_delayed = refl;
      a_runs_on = refl;
      a_plain = refl;
      b_no_second_start = refl;
      c_behind_its_equal = refl;
      d_accepted = refl;
      d_own_deadlines = refl;
      d_second_waits = refl;
      d_multiple_due = refl;
      d_multiple_first = refl;
      d_multiple_not_run = refl;
      e_refused = refl;
      e_print = refl;
      e_kernel = refl;
      e_plain = refl;
      f_refused = refl;
      f_kernel = refl;
      f_plain = refl;
      g_accepted = refl;
      h_runs = refl;
      h_chain = refl;
      h_activate = refl;
      i_nothing_runs = refl;
      i_accepted = refl;
      i_goes_back = refl;
      i_plain = refl;
      i_changes_nothing = refl;
      j_on_time = refl;
      j_late = refl;
      j_on_time_counts = refl;
      j_late_counts = refl;
      j_reported_once = refl;
      j_first_call_after = refl;
      k_not_shortest = refl;
      k_cut_off = refl;
      l_fits = refl;
      l_too_many = refl;
      number_writes_127 = refl;
      number_writes_128 = refl;
      number_writes_300 = refl;
      number_127 = refl;
      number_128 = refl;
      number_300 = refl;
      number_nine_groups = refl;
      number_tenth_group = refl;
      tape_numbers = refl;
      record_kind_first = refl;
      record_sum_first = refl;
      write_24_first = refl;
      write_too_short = refl;
      write_just_fits = refl;
      write_left_as_it_was = refl;
      write_nothing_behind = refl;
      one_none = refl;
      one_many = refl;
      two_first = refl;
      three_first = refl;
      no_line = refl;
      in_reach = refl;
      no_reach = refl;
      ten_refused = refl;
      ten_at_31 = refl;
      ten_at_32 = refl;
      ten_after_4 = refl;
      why_earlier = refl;
      why_there_first = refl;
      why_it_runs = refl;
      why_no_line = refl;
      why_byte_255 = refl;
      why_none_pending = refl;
      why_first_of_two = refl;
      why_preempted = refl;
      why_late = refl;
      why_print = refl;
      why_print_whole = refl;
      why_print_no_record = refl;
      why_print_bad_record = refl;
      why_print_bad_table = refl;
      why_print_nothing_read = refl;
      place_last = refl;
      place_between = refl;
      place_first = refl;
      place_alone = refl;
      place_unordered = refl;
    }
