-- The run of a process: one call on its words, or none where it has no words.
use Rattle.std.specs.Prelude.{◌≡◌, ◌⊎◌, ℕ, List, Option, Result, Ok, Err, String, Vec}
use Rattle.std.specs.declared.alloc.Global.{Global}
use Rattle.std.specs.declared.io.Error.{Error}
use Rattle.std.specs.declared.vec.IntoIter.{IntoIter}
use Rattle.command_line.specs.ProcessWords.{IsWords}

-- what is known of a source and of a sink: what is left to read and what was written, and how often each has failed
pub record ProcessStreams (S K : Type 0) : Type 0 where
  pub left : S → Option (List ℕ)
  pub read_faults : S → ℕ
  pub held : K → Option (List ℕ)
  pub write_faults : K → ℕ

-- the words cannot be had: nothing is read or written
pub record EndsWithoutWords {S K : Type 0} (started : Result (IntoIter (String Global) Global) Error) (source source_after : S)
    (sink sink_after : K) (status : ℕ) : Type 0 where
  pub words : IsWords started (Err status)
  pub nothing_read : source_after ≡ source
  pub nothing_written : sink_after ≡ sink

-- one call was made on the words, and the process ends with its status
pub record CallsOnce (IsCall : List (String Global) → ℕ → Type 0) (started : Result (IntoIter (String Global) Global) Error) (status : ℕ)
    : Type 0 where
  pub words : Vec (String Global) Global
  pub are : IsWords started (Ok words)
  pub call : IsCall words.items status

-- IsCall says of words and a status that the call on these words took the source and the sink from what they were to what they are
abbrev pub IsProcessRun : {S K : Type 0} (IsCall : List (String Global) → ℕ → Type 0) → Result (IntoIter (String Global) Global) Error → S → S → K → K → ℕ
    → Type 0
IsProcessRun IsCall started source source_after sink sink_after status =
    EndsWithoutWords started source source_after sink sink_after status ⊎ CallsOnce IsCall started status
