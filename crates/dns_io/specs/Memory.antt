-- What the sources and the sinks in memory show.
use Rattle.std.specs.Prelude.{◌≡◌, ℕ, ◌+◌, ◌-◌, if◌then◌else◌, List, length, take, drop, vec_len, Option, Some, None}
use Rattle.dns_io.specs.declared.memory.MemSource.{MemSource}
use Rattle.dns_io.specs.declared.memory.PlainSource.{PlainSource}
use Rattle.dns_io.specs.declared.memory.MemSink.{MemSink}
use Rattle.dns_io.specs.declared.memory.PlainSink.{PlainSink}

-- the octets left
abbrev pub source_left : MemSource → List ℕ
source_left s = drop s.at s.octets.items

-- how many octets were taken: a place within a vector, so below the last value of a `u64`
abbrev pub source_taken : MemSource → ℕ
source_taken s = s.at

-- how many calls there were
abbrev pub source_calls : MemSource → ℕ
source_calls s = s.calls

-- how many calls failed
abbrev pub source_faults : MemSource → ℕ
source_faults s = s.faults

-- the numbers of the calls that fail
abbrev pub source_fails : MemSource → List ℕ
source_fails s = s.fails.items

-- the most octets that a call moves
abbrev pub source_step : MemSource → ℕ
source_step s = s.step

-- the list of failures and the step stay
pub record SameSource (old new : MemSource) : Type 0 where
  pub fails : source_fails new ≡ source_fails old
  pub step : source_step new ≡ source_step old

-- the octets left
abbrev pub plain_left : PlainSource → List ℕ
plain_left s = drop s.at s.octets.items

-- how many octets were taken
abbrev pub plain_taken : PlainSource → ℕ
plain_taken s = s.at

-- the octets held
abbrev pub sink_held : MemSink → List ℕ
sink_held s = take s.len s.buffer.items

-- how many octets there is still room for
abbrev pub sink_room : MemSink → ℕ
sink_room s = vec_len s.buffer - s.len

-- how many calls there were
abbrev pub sink_calls : MemSink → ℕ
sink_calls s = s.calls

-- how many calls failed
abbrev pub sink_faults : MemSink → ℕ
sink_faults s = s.faults

-- the numbers of the calls that fail
abbrev pub sink_fails : MemSink → List ℕ
sink_fails s = s.fails.items

-- the most octets that a call appends
abbrev pub sink_step : MemSink → ℕ
sink_step s = s.step

-- the octets taken, while there was memory for all of them
abbrev pub plain_kept : PlainSink → Option (List ℕ)
plain_kept s = if s.is_whole then Some s.octets.items else None

-- the list of failures and the step stay, and what is held and the room are still as much together
pub record SameSink (old new : MemSink) : Type 0 where
  pub fails : sink_fails new ≡ sink_fails old
  pub step : sink_step new ≡ sink_step old
  pub whole : length (sink_held new) + sink_room new ≡ length (sink_held old) + sink_room old
