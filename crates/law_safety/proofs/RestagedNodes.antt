-- What is known of the round of a node says nothing of its stage.
use Rattle.std.proofs.Common.{ℕ, List, Bool, true, false, Some, None, Option}
use Rattle.std.specs.Option.{IfSome}
use Rattle.lwb_base.specs.Messages.{Plan}
use Rattle.node_core.specs.declared.stage.Stage.{Stage}
use Rattle.node_core.specs.Nodes.{Node}
use Rattle.scenario_text.specs.ScenarioParts.{ScenarioParts}
use Rattle.radio_model.specs.declared.sending.Sending.{Sending}
use Rattle.air_log.specs.declared.entry.Entry.{Entry}
use Rattle.law_safety.specs.TunedNodes.{Either, IsMember}
use Rattle.law_safety.specs.OrderedSendings.{HeardIn}
use Rattle.law_safety.specs.KnownPlans.{KnowsPlan, KnowsOpening, InRound}

-- either way by a test
pub either : (b : Bool) (P Q R S : Type 0) → (P → R) → (Q → S) → Either b P Q → Either b R S
either true P Q R S f g is = f is
either false P Q R S f g is = g is

pub if_some : {A : Type 0} (o : Option A) (P Q : A → Type 0) → ((a : A) → P a → Q a) → IfSome o P → IfSome o Q
if_some None P Q f is = is
if_some (Some a) P Q f is = f a is

module _ (s : ScenarioParts) (clocks : ℕ → ℕ → ℕ) (air : List Entry) (v told : ℕ) (n : Node) (stage : Stage) where
  -- the node at another stage
  abbrev pub restaged : Node
  restaged = record n { stage = stage }

  pub member_there : (j last : ℕ) (closes : Bool) → IsMember s clocks v n j last closes → IsMember s clocks v restaged j last closes
  member_there j last closes is = record { slot = is.slot; good = is.good; round = is.round }

  pub heard_there : (j : ℕ) (x : Sending) → HeardIn s air v told n j x → HeardIn s air v told restaged j x
  heard_there j x is = record { there = is.there; rank = is.rank; frame = is.frame; slot = is.slot; by = is.by }

  pub plan_there : (frame : ℕ) (plan : Plan) → KnowsPlan s clocks air v told n frame plan → KnowsPlan s clocks air v told restaged frame plan
  plan_there frame plan is = record { planned = is.planned; heard = is.heard }

  pub opening_there : (j : ℕ) (plan : Plan) → KnowsOpening s clocks air v n j plan → KnowsOpening s clocks air v restaged j plan
  opening_there j plan is = record { behind = is.behind; guest = is.guest; ref = is.ref; heard = is.heard }

  pub round_there : (j : ℕ) (plan : Plan) → InRound s clocks air v told n j plan → InRound s clocks air v told restaged j plan
  round_there j plan is = record {
    fits = is.fits;
    known = λ why. plan_there n.frame plan (is.known why);
    fresh = λ why. opening_there j plan (is.fresh why);
  }
