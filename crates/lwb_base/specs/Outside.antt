-- What a source and a sink in memory are seen as.
use Rattle.std.specs.Prelude.{◌≡◌, ℕ, ◌+◌, ◌-◌, ◌^◌, min, List}

-- the bytes left, the most that a call moves, the numbers of the calls that fail, the calls made so far, and the faults so far
pub record SourceState : Type 0 where
  pub left : List ℕ
  pub most : ℕ
  pub fails : List ℕ
  pub calls : ℕ
  pub faults : ℕ

-- the same of a sink: the bytes held, and how many it has room for
pub record SinkState : Type 0 where
  pub held : List ℕ
  pub most : ℕ
  pub room : ℕ
  pub fails : List ℕ
  pub calls : ℕ
  pub faults : ℕ

-- the number of the call after these: calls are counted from 1, and the numbering stops at the last value of a `u64`
abbrev pub next_call : ℕ → ℕ
next_call calls = min (calls + 1) (2 ^ 64 - 1)

-- a call was made, and what the source was made with stays
pub record TakesOnce (old new : SourceState) : Type 0 where
  pub most : new.most ≡ old.most
  pub fails : new.fails ≡ old.fails
  pub calls : new.calls ≡ next_call old.calls

-- the same of a sink
pub record PutsOnce (old new : SinkState) : Type 0 where
  pub most : new.most ≡ old.most
  pub room : new.room ≡ old.room
  pub fails : new.fails ≡ old.fails
  pub calls : new.calls ≡ next_call old.calls
