-- The flood so far stays one when a node receives a transmission that has just ended.
use Rattle.std.proofs.Common.{ℕ, ◌<◌, List, [], ◌∷◌, ◌++◌, map, refl, sym, ◌∙◌, subst}
use Rattle.std.proofs.lemmas.List.{append-nil}
use Rattle.scenario_text.specs.FloodParts.{FloodParts}
use Rattle.radio_model.specs.declared.sending.Sending.{Sending}
use Rattle.radio_model.specs.OnAir.{Hearing}
use Rattle.radio_model.specs.Hearing.{Scene}
use Rattle.radio_model.specs.Holding.{Holds}
use Rattle.air_log.specs.FloodLaw.{CLOSING}
use Rattle.lwb_flood.specs.FloodLog.{HasClocks}
use Rattle.lwb_flood.specs.FloodWorlds.{World, hearing_by, world_after_reception, heard_by_all}
use Rattle.lwb_flood.proofs.FloodHearer.{here}
use Rattle.lwb_flood.proofs.FloodReplies.{heard_runs_back}
use Rattle.lwb_flood.proofs.FloodSoFar.{IsMember, Runs, IsFloodSoFar}
use Rattle.lwb_flood.proofs.HearingKept.{each_heard, each_due, each_tuning, begins_on, once_more, elsewhere, each_sent}
use Rattle.lwb_flood.proofs.HearingLogged.{Receives, same_scene}
use Rattle.lwb_flood.proofs.WorldLists.{each_changed, nodes_kept}

module _ {f : FloodParts} {clocks : ℕ → ℕ → ℕ} {v : ℕ} {x : Sending} {todo : List Hearing} {leaving : List ℕ} {w : World}
    (g : Receives f clocks v x todo leaving w) where
  abbrev next : World
  next = world_after_reception (clocks v) x v w

  pub heard_keeps : IsFloodSoFar f clocks todo leaving (world_after_reception (clocks v) x v w)
  heard_keeps = record {
    nodes = nodes_kept v (hearing_by (clocks v) x) (λ m. refl) w.members ∙ g.so.nodes;
    stations = g.so.stations;
    numbers = g.so.numbers;
    since = g.so.since;
    holds = subst (λ (a : Scene). Holds w.medium a) (sym (same_scene g)) g.so.holds;
    each = each_changed v (hearing_by (clocks v) x) w.members (IsMember f clocks leaving next) (here g)
        (elsewhere g);
    sent = each_sent g;
    heard = each_heard g;
    due_now = each_due g;
    due_once = g.so.due_once.1;
    tunings = each_tuning g;
    once = once_more g;
    begins = begins_on g;
  }

-- when some nodes have received it, and others are yet to receive it
module _ (f : FloodParts) (clocks : ℕ → ℕ → ℕ) (is : HasClocks f clocks) (x : Sending) (leaving : List ℕ) where
  abbrev pub heard_at : List ℕ → List Hearing
  heard_at vs = map (λ v. record { node = v; sending = x }) vs

  pub heard_by_some : (us vs : List ℕ) (w : World) → IsFloodSoFar f clocks (heard_at (us ++ vs)) leaving w → w.medium.now < CLOSING → (Runs w x → ⊥)
      → IsFloodSoFar f clocks (heard_at vs) leaving (heard_by_all clocks x us w)
  heard_by_some [] vs w so early over = so
  heard_by_some (u ∷ us) vs w so early over =
      let g : Receives f clocks u x (heard_at (us ++ vs)) leaving w = record { has = is; so = so; early = early; over = over } in
      heard_by_some us vs (world_after_reception (clocks u) x u w) (heard_keeps g) early
      (λ r. over (heard_runs_back (clocks u) x u w x r))

  pub heard_by_all_keeps : (vs : List ℕ) (w : World) → IsFloodSoFar f clocks (heard_at vs) leaving w → w.medium.now < CLOSING → (Runs w x → ⊥)
      → IsFloodSoFar f clocks [] leaving (heard_by_all clocks x vs w)
  heard_by_all_keeps vs w so early over = heard_by_some vs [] w
      (subst (λ (l : List ℕ). IsFloodSoFar f clocks (heard_at l) leaving w) (sym (append-nil vs)) so) early over
