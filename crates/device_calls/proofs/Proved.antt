-- The laws, proved.
use Rattle.device_calls.specs.Laws.{Laws}
use Rattle.device_calls.proofs.Append as append
use Rattle.device_calls.proofs.Left as left

pub laws : Laws
laws = record {
  append = append.completed_then;
  split = append.completed_split;
  stopped_in_first = append.stopped_first;
  stopped_in_second = append.stopped_then;
  where_stopped = append.stopped_split;
  same_counts = left.completed_counts;
  stays_on = left.completed_on;
  was_in_range = left.completed_range;
  gains = left.completed_gains;
  spared = left.completed_spares;
  last_stored = left.completed_last;
  barred = left.completed_barred;
  unchanged = left.completed_reading;
  cut_short = left.cut_short;
  cut_reading = left.cut_reading;
}
