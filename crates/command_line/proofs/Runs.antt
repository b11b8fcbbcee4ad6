-- A process that makes its call on its words, and one that has none.
use Rattle.std.proofs.Common.{◌≡◌, ℕ, List, Result, Ok, Err, String, Vec, subst, sym, refl, inl, inr}
use Rattle.std.specs.declared.alloc.Global.{Global}
use Rattle.std.specs.declared.io.Error.{Error}
use Rattle.std.specs.declared.vec.IntoIter.{IntoIter}
use Rattle.command_line.specs.ProcessWords.{IsWords}
use Rattle.command_line.specs.ProcessRuns.{IsProcessRun}

-- the call was given the words of the process, and its status is that of the process
pub called : {S K : Type 0} (IsCall : List (String Global) → ℕ → Type 0) (started : Result (IntoIter (String Global) Global) Error) (source source_after : S)
    (sink sink_after : K) (words : Vec (String Global) Global) (given : List (String Global)) (status exit : ℕ) → IsWords started (Ok words) → given
    ≡ words.items
    → exit ≡ status → IsCall given status → IsProcessRun IsCall started source source_after sink sink_after exit
called IsCall started source source_after sink sink_after words given status exit are same ends call =
    inr (record {
      words = words;
      are = are;
      call = subst (λ (n : ℕ). IsCall words.items n) (sym ends) (subst (λ (l : List (String Global)). IsCall l status) same call);
    })

-- the process could not get its words
pub uncalled : {S K : Type 0} (IsCall : List (String Global) → ℕ → Type 0) (started : Result (IntoIter (String Global) Global) Error) (source : S) (sink : K)
    (status exit : ℕ) → IsWords started (Err status) → exit ≡ status → IsProcessRun IsCall started source source sink sink exit
uncalled IsCall started source sink status exit are ends = inl (record {
  words = subst (λ (n : ℕ). IsWords started (Err n)) (sym ends) are;
  nothing_read = refl;
  nothing_written = refl;
})
