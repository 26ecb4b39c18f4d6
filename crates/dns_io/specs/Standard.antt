-- What the adapters of standard input and output hold, and what they make of an answer of their reader or writer.
use Rattle.std.specs.Prelude.{◌≡◌, ℕ, ◌||◌, false, List, length, nat_eq, nat_lt, if◌then◌else◌, Option, Some, None}
use Rattle.std.specs.Prelude.{Result, Ok, Err}
use Rattle.std.specs.Result.{result_ok}
use Rattle.std.specs.Io.{ReadsAtMost, WritesAtMost}
use Rattle.std.specs.Io.KnownBytes.{ReadConsumes, WriteAppends}
use Rattle.std.specs.declared.io.Error.{Error}
use Rattle.dns_io.specs.declared.source_sink.Failed.{Failed}
use Rattle.dns_io.specs.declared.standard.StdSource.{StdSource}
use Rattle.dns_io.specs.declared.standard.StdSink.{StdSink}
use Rattle.dns_io.specs.Counts.{raised}
use Rattle.dns_io.specs.Interruptions.{was_interrupted}

abbrev pub reader_of : {R : Type 0} → StdSource R → R
reader_of s = s.reader

abbrev pub std_taken : {R : Type 0} → StdSource R → ℕ
std_taken s = s.taken

abbrev pub std_source_faults : {R : Type 0} → StdSource R → ℕ
std_source_faults s = s.faults

abbrev pub writer_of : {W : Type 0} → StdSink W → W
writer_of s = s.writer

abbrev pub std_sink_faults : {W : Type 0} → StdSink W → ℕ
std_sink_faults s = s.faults

-- the count of faults behind a call: one more, where it answered no count of octets
abbrev pub faults_after : ℕ → Option ℕ → ℕ
faults_after faults (Some n) = faults
faults_after faults None = raised faults 1

-- the count that a writer answered for so many octets; none of some is no count
abbrev pub count_written : ℕ → Result ℕ Error → Option ℕ
count_written len (Ok n) = if nat_lt 0 n || nat_eq len 0 then Some n else None
count_written len (Err e) = None

-- a reader answered, and its count, or one more fault for its error, is passed on; an interrupted call is no answer
pub record PassesRead (left now : Option (List ℕ)) (piece : List ℕ) (result : Result ℕ Failed)
    (faults fails : ℕ) : Type 0 where
  pub answer : Result ℕ Error
  pub uninterrupted : was_interrupted answer ≡ false
  pub within : ReadsAtMost answer piece
  pub octets : ReadConsumes left now answer piece
  pub count : result_ok result ≡ result_ok answer
  pub failures : fails ≡ faults_after faults (result_ok answer)

-- a writer answered, and its count, or one more fault where there is none, is passed on; an interrupted call is no answer
pub record PassesWrite (held now : Option (List ℕ)) (piece : List ℕ) (result : Result ℕ Failed)
    (faults fails : ℕ) : Type 0 where
  pub answer : Result ℕ Error
  pub uninterrupted : was_interrupted answer ≡ false
  pub within : WritesAtMost answer piece
  pub octets : WriteAppends held now answer piece
  pub count : result_ok result ≡ count_written (length piece) answer
  pub failures : fails ≡ faults_after faults (count_written (length piece) answer)
