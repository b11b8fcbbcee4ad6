-- The words of a process, or the status that it ends with where it cannot get them.
use Rattle.std.specs.Prelude.{◌≡◌, ◌≢◌, ℕ, drop, Result, Ok, Err, String, Vec}
use Rattle.std.specs.declared.alloc.Global.{Global}
use Rattle.std.specs.declared.io.Error.{Error}
use Rattle.std.specs.declared.io.ErrorKind.TheVariants.{OutOfMemory}
use Rattle.std.specs.IoError.{error_kind}
use Rattle.std.specs.Iterator.Runs.{WholeRun}
use Rattle.std.specs.declared.vec.IntoIter.{IntoIter}
use Rattle.std.specs.Vec.Iter.{into_iter_steps}

-- all words but the first, of those that the process was started with
abbrev pub IsWords : Result (IntoIter (String Global) Global) Error → Result (Vec (String Global) Global) ℕ → Type 0
IsWords (Ok started) (Ok words) = WholeRun into_iter_steps started (λ run. words.items ≡ drop 1 run.items)
IsWords (Ok started) (Err status) = status ≡ 5
IsWords (Err error) (Ok words) = ⊥
IsWords (Err error) (Err status) = (error_kind error ≡ OutOfMemory → status ≡ 5) × (error_kind error ≢ OutOfMemory → status ≡ 6)
