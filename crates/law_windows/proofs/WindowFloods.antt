-- The flood of each window is what happened in it.
use Rattle.std.proofs.Common.{◌≡◌, ℕ, List, [], ◌∷◌, ◌++◌, Bool, true, false, if◌then◌else◌, Option, fold, refl, sym, ◌∙◌, ap}
use Rattle.std.proofs.lemmas.List.Sums.{fold-append}
use Rattle.glossy_relay.specs.FloodState.{FloodState}
use Rattle.glossy_relay.specs.Relaying.{after_heard, after_sent}
use Rattle.bus_rules.specs.Cores.{Setup}
use Rattle.lwb_member.specs.Said.{message_of}
use Rattle.node_core.specs.Windows.{Window}
use Rattle.node_core.specs.Rows.{is_foreign}
use Rattle.scenario_text.specs.ScenarioParts.{ScenarioParts}
use Rattle.air_log.specs.declared.entry.Entry.{Entry}
use Rattle.air_log.specs.WindowLogs.{WindowLog, Happening, HeardAt, SentAt, Closing}
use Rattle.scenario_text.specs.Setups.{setup_of}
use Rattle.law_trails.specs.Phases.{Hearings}
use Rattle.law_safety.specs.SetAlarms.{rank_at}
use Rattle.law_safety.specs.Rows.{AtTick}
use Rattle.law_windows.specs.WindowFloods.{after_happening, flood_at_first, WindowHasFlood}
use Rattle.law_windows.specs.WindowSteps.{KeepsWindows}
use Rattle.law_windows.proofs.OwnSchedules.{own_channel, not_foreign}
use Rattle.law_windows.proofs.WindowWalk.{on_in}

-- the flood at first does not depend on what happened since
pub first_same : (s : Setup) (b : Bool) (w : WindowLog) (happenings : List Happening) (last : Window) (closed : Option Closing)
    → flood_at_first s b (record w { happenings = happenings; last = last; closed = closed }) ≡ flood_at_first s b w
first_same s true w happenings last closed = refl
first_same s false w happenings last closed = refl

own_flood : (foreign : Bool) (f g : FloodState) → foreign ≡ false → (if foreign then f else g) ≡ g
own_flood foreign f g is = ap (λ (b : Bool). if b then f else g) is

-- one happening more
one_more : (s : Setup) (x : WindowLog) (e : Happening) (u : Window) → WindowHasFlood s x → u.flood ≡ after_happening x.last.flood e
    → WindowHasFlood s (record x { happenings = x.happenings ++ e ∷ []; last = u })
one_more s x e u has is =
    is ∙ ap (λ (f : FloodState). after_happening f e) has
    ∙ sym (fold-append after_happening (flood_at_first s x.by_alarm x) x.happenings (e ∷ []))
    ∙ ap (λ (f : FloodState). fold after_happening f (x.happenings ++ e ∷ [])) (sym (first_same s x.by_alarm x (x.happenings ++ e ∷ []) u x.closed))

pub flood_steps : (s : ScenarioParts) (clocks : ℕ → ℕ → ℕ) (air : List Entry) (v t : ℕ) → AtTick s clocks air v t
    → KeepsWindows s clocks air v (λ now taken w. WindowHasFlood (setup_of s v) w) t
flood_steps s clocks air v t at = record {
  begun = λ d n j fine due on stage. refl;
  joined = λ d h n y fine next now on stage says rank. refl;
  heard = λ d h n j w x here next now on stage is in_it known.
      (let own = own_channel s clocks air v t h d now n j w (on_in s clocks air v t Hearings d n here.holds on) stage in
      one_more (setup_of s v) x (HeardAt t h.packet) _ known
      (own_flood (is_foreign (rank_at n) (message_of h.packet)) w.flood (after_heard w.flood h.packet) (not_foreign s clocks air v t h d now n own)
      ∙ ap (λ (u : Window). after_heard u.flood h.packet) (sym is.last)));
  taken = λ d fine is before now x there. now.each x there;
  passed = λ x known. known;
  sent = λ d y n j w x fine enters own ends on stage waiting is in_it known.
      one_more (setup_of s v) x (SentAt t y.packet) _ known (ap (λ (u : Window). after_sent u.flood) (sym is.last));
  closed = λ d n j w x fine due on stage is known. known
      ∙ ap (λ (f : FloodState). fold after_happening f x.happenings) (sym (first_same (setup_of s v) x.by_alarm x x.happenings x.last _));
}
