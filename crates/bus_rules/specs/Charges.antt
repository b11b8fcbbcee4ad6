-- What a node's windows count in the account of its energy.
use Rattle.std.specs.Prelude.{ℕ, ◌+◌, ◌-◌, ◌*◌, List, ◌==◌, if◌then◌else◌, Some, None, length}
use Rattle.std.specs.declared.option.Option.{Option}
use Rattle.std.specs.List.{last_or}
use Rattle.lwb_base.specs.Profile.{Numbers, step}

-- a window counts until its closing; one in which the node sent as often as it may counts until the end of its last
-- transmission, which is given by its step and its length
abbrev pub charge : Numbers → Option (ℕ × ℕ) → ℕ
charge p None = p.close
charge p (Some last) = p.listen + (last.0 + 1) * step p last.1 - p.turn

-- the last of what was sent, if it was sent as often as a node may
abbrev pub last_if_all_sent : {X : Type 0} → ℕ → List X → Option X
last_if_all_sent sends made = if length made == sends then last_or None made else None
