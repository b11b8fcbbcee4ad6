-- To which nodes transmissions come, as masks.
use Rattle.std.specs.Prelude.{◌≡◌, ◌<◌, ◌≤◌, ◌+◌, ◌^◌, ◌↔◌, ◌==◌, ℕ, List, All, AllPairs, Contains, length, slice_index, slice_index_or}
use Rattle.std.specs.Int.{bit_at}
use Rattle.std.specs.List.{list_any}
use Rattle.lwb_base.specs.Profile.{Numbers}
use Rattle.link_trace.specs.Masks.{IsMask}
use Rattle.link_trace.specs.Passes.{Lines}
use Rattle.radio_model.specs.Hearing.{Scene, HearsInScene, TunedThrough, Before}
use Rattle.radio_model.specs.OnAir.{Sending}
use Rattle.radio_model.specs.Receptions.{arrives, transmits, spoils, differs}
use Rattle.radio_model.specs.declared.receivers.Disturbed.{Disturbed}
use Rattle.radio_model.specs.declared.receivers.Reach.{Reach}

-- the sender of y, and the nodes to which a link passes from it
pub record IsReach (p : Numbers) (lines : Lines) (nodes : List ℕ) (y : Sending) (r : Reach) : Type 0 where
  pub from : IsMask (λ v. y.node == v) nodes r.from
  pub to : IsMask (λ v. arrives p lines v y) nodes r.to

-- one for each transmission
pub record AreReaches (p : Numbers) (lines : Lines) (nodes : List ℕ) (sent : List Sending) (reaches : List Reach) : Type 0 where
  pub one_each : length reaches ≡ length sent
  pub each : (k : ℕ) (d : Sending) (e : Reach) → k < length sent → IsReach p lines nodes (slice_index_or sent k d) (slice_index_or reaches k e)

-- the nodes at which those near x transmit themselves, bring its packet at another time, and bring another packet
pub record AreDisturbed (p : Numbers) (lines : Lines) (nodes : List ℕ) (x : Sending) (near : List Sending) (d : Disturbed) : Type 0 where
  pub busy : IsMask (λ v. list_any (transmits v x) near) nodes d.busy
  pub late : IsMask (λ v. list_any (spoils p lines v x) near) nodes d.late
  pub mixed : IsMask (λ v. list_any (differs p lines v x) near) nodes d.mixed

-- v is one of these nodes, and its bit is set
pub record IsAmong (nodes : List ℕ) (mask v : ℕ) : Type 0 where
  pub place : ℕ
  pub below : place < length nodes
  pub node : slice_index nodes place ≡ v
  pub set : bit_at mask place ≡ 1

-- what is in one is in the other
pub record HoldSame (xs ys : List Sending) : Type 0 where
  pub into : (y : Sending) → Contains xs y → Contains ys y
  pub back : (y : Sending) → Contains ys y → Contains xs y

-- of the nodes that are tuned to x, one of these transmissions, those receive it that are in the mask
abbrev pub IsReceivedBy : Numbers → Lines → List ℕ → List Sending → Sending → ℕ → Type 0
IsReceivedBy p lines nodes sent x mask =
    (a : Scene) (v : ℕ) → a.numbers ≡ p → a.lines ≡ lines → HoldSame a.sendings sent → Contains nodes v → TunedThrough a v x
    → (IsAmong nodes mask v ↔ HearsInScene a v x)

-- transmissions, what each reaches, and the longest time that one of them is on the air
pub record SentParts : Type 0 where
  pub sent : List Sending
  pub reaches : List Reach
  pub longest : ℕ

-- they are by start and then sender, and what is said of them is so
pub record AreSearchable (p : Numbers) (lines : Lines) (nodes : List ℕ) (t : SentParts) : Type 0 where
  pub in_order : AllPairs Before t.sent
  pub early : All (λ y. y.start ≤ 2 ^ 46) t.sent
  pub longest : All (λ y. y.end ≤ y.start + t.longest) t.sent
  pub reaches : AreReaches p lines nodes t.sent t.reaches
