-- When a frame starts no node of the scenario keeps a request: a host that kept some has planned since.
use Rattle.std.proofs.Common.{◌≡◌, ◌+◌, ◌==◌, ℕ, zero, suc, List, [], ◌∷◌, ◌++◌, Bool, true, false, Option, Some, None, if◌then◌else◌}
use Rattle.std.proofs.Common.{fold, refl, sym, ◌∙◌, ap, subst, arith}
use Rattle.std.proofs.lemmas.Bool.{cond-false}
use Rattle.lwb_base.specs.Messages.{Ask, Plan}
use Rattle.scenario_text.specs.ScenarioParts.{ScenarioParts}
use Rattle.bus_rules.specs.declared.act.Act.{Act}
use Rattle.scenario_text.specs.declared.script.ScriptLine.{ScriptLine}
use Rattle.bus_rules.specs.declared.part.Part.{Part}
use Rattle.bus_rules.specs.declared.part.Part.TheVariants.{Opening, Data as DataSlot, Contention, Closing}
use Rattle.bus_rules.specs.Cores.{Core, Setup, as_host, begins_host, frame_ended, is_fresh, opening_accepted, closing_accepted}
use Rattle.bus_rules.specs.Plans.{last_slot}
use Rattle.bus_rules.specs.Slots.{Message, Opened, ScheduleOf, DataOf, RequestOf, opened_slot, closed_slot, slot_heard, hosts_now, host_closes, silent}
use Rattle.bus_rules.specs.States.{State, StateOff, StateOn, at_core, state_after_act}
use Rattle.bus_rules.specs.Tuning.{next_tune, hosts_in}
use Rattle.bus_rules.proofs.Switches.{acts_keep}
use Rattle.bus_terms.specs.Bus.{before_frame, state_at}
use Rattle.bus_terms.specs.FloodOfText.{ids}
use Rattle.bus_terms.specs.Flooding.{has}
use Rattle.bus_terms.specs.Rounds.{rounds, round_plan, rank_in, after_round}
use Rattle.scenario_text.specs.Setups.{setup_of}
use Rattle.bus_terms.specs.ScriptedStates.{state_after_line, is_on_and, lines_of, states_after_script}
use Rattle.bus_terms.specs.HostedRounds.{IsHosted, state_after_round}
use Rattle.bus_terms.proofs.KeptInRounds.{slots_keep}
use Rattle.bus_terms.proofs.HostedRounds.{leads, has_planned}

abbrev pub kept_of : State → List Ask
kept_of (StateOff boots) = []
kept_of (StateOn c) = c.kept

-- the node hosts no round of frame f, and keeps no request
abbrev IsQuiet : ℕ → State → Type 0
IsQuiet f (StateOff boots) = Unit {0}
IsQuiet f (StateOn c) = (hosts_now f c ≡ false) × (c.kept ≡ [])

opens : (q : Setup) (f : ℕ) (part : Part) (c : Core) → IsQuiet f (StateOn c) → IsQuiet f (StateOn (opened_slot q f part c).core)
opens q f Opening c is = is
opens q f (DataSlot owner) c is = is
opens q f (Contention i) c is = is
opens q f Closing c is = subst (λ (o : Opened). IsQuiet f (StateOn o.core)) (sym (cond-false (hosts_now f c) (host_closes q f c) (silent c) is.0)) is

heard : (f : ℕ) (part : Part) (b : Bool) (c : Core) → IsQuiet f (StateOn c) → IsQuiet f (StateOn (slot_heard f part b c))
heard f Opening b c is = is
heard f (DataSlot owner) b c is = is
heard f (Contention i) b c is = is
heard f Closing b c is = is

closes : (q : Setup) (f : ℕ) (part : Part) (b : Bool) (c : Core) (o : Option Message) → IsQuiet f (StateOn c)
    → IsQuiet f (StateOn (closed_slot q f part b c o).core)
closes q f part b c None is = heard f part b c is
closes q f part b c (Some (ScheduleOf x)) is = by_test (x.gap == 0)
  where
    by_test : (t : Bool) → IsQuiet f (StateOn (if t then opening_accepted q.id f x c else closing_accepted q.id f x c))
    by_test true = is
    by_test false = (refl, is.1)
closes q f part b c (Some (DataOf d)) is = heard f part true c is
closes q f part b c (Some (RequestOf a)) is = (is.0, cond-false (hosts_now f c) (c.kept ++ a ∷ []) c.kept is.0 ∙ is.1)

-- the script and the ends of frames
acts : (a : Act) (x : State) → kept_of x ≡ [] → kept_of (state_after_act a x) ≡ []
acts = acts_keep (λ x. kept_of x ≡ []) (λ boots is. refl) (λ c is. refl) (λ a c is. is)

lines : (ls : List ScriptLine) (x : State) → kept_of x ≡ [] → kept_of (fold state_after_line x ls) ≡ []
lines [] x is = is
lines (l ∷ ls) x is = lines ls (state_after_line x l) (acts l.act x is)

ends : (q : Setup) (f : ℕ) (x : State) → kept_of x ≡ [] → kept_of (at_core (frame_ended q f) x) ≡ []
ends q f (StateOff boots) is = is
ends q f (StateOn c) is = by_host (begins_host c.tune (next_tune c.tune f (is_fresh c) q.own q.ranks))
  where
    by_host : (o : Option ℕ) → (as_host q.profile o (record c { tune = next_tune c.tune f (is_fresh c) q.own q.ranks; own_slot = None })).kept ≡ []
    by_host None = is
    by_host (Some r) = is

module _ (s : ScenarioParts) (v : ℕ) (known : has (ids s.nodes) v ≡ true) where
  -- a round leaves none: its host has planned, and no other node keeps one
  after : (f : ℕ) → kept_of (state_at s f v) ≡ [] → kept_of (rounds s f (state_at s f) v) ≡ []
  after f none = by_plan (round_plan s rank f (state_at s f)) refl
    where
      rank : ℕ
      rank = rank_in (state_at s f v)

      hosting : State → Bool
      hosting x = is_on_and (λ c. hosts_now f c) x

      hosted : (p : Plan) → round_plan s rank f (state_at s f) ≡ Some p → hosting (state_at s f v) ≡ true → IsHosted s rank f p v
      hosted p is due = record { known = known; due = by_state (state_at s f v) due; plan = is }
        where
          by_state : (x : State) → hosting x ≡ true → is_on_and (λ c. hosts_in (rank_in x) f c.tune) x ≡ true
          by_state (StateOff boots) due = due
          by_state (StateOn c) due = due

      quiet : (x : State) → kept_of x ≡ [] → hosting x ≡ false → IsQuiet f x
      quiet (StateOff boots) empty idle = tt
      quiet (StateOn c) empty idle = (idle, empty)

      of_quiet : (x : State) → IsQuiet f x → kept_of x ≡ []
      of_quiet (StateOff boots) is = refl
      of_quiet (StateOn c) is = is.1

      by_hosting : (p : Plan) → round_plan s rank f (state_at s f) ≡ Some p → (t : Bool) → hosting (state_at s f v) ≡ t
          → kept_of (state_after_round s rank f p v) ≡ []
      by_hosting p is true due =
          let host = hosted p is due in
          let lead = leads s rank f p v host (last_slot p) (omega arith) in
          ap kept_of (has_planned s rank f p v host lead)
      by_hosting p is false idle = of_quiet (state_after_round s rank f p v)
          (slots_keep s f (λ w x. w ≡ v → IsQuiet f x) (λ m. Unit {0})
          (λ w part c is same. opens (setup_of s w) f part c (is same))
          (λ w part c m is said. tt)
          (λ w part b c o told is same. closes (setup_of s w) f part b c o (is same)) rank p (state_at s f)
          (λ w same. subst (λ (u : ℕ). IsQuiet f (state_at s f u)) (sym same) (quiet (state_at s f v) none idle)) (last_slot p + 1) v refl)

      by_plan : (o : Option Plan) → round_plan s rank f (state_at s f) ≡ o → kept_of (after_round s rank f (state_at s f) o v) ≡ []
      by_plan None is = none
      by_plan (Some p) is = by_hosting p is (hosting (state_at s f v)) refl

  before : (f : ℕ) → kept_of (before_frame s f v) ≡ []
  unfolding before_frame
  before zero = refl
  before (suc f) =
      ends (setup_of s v) f (rounds s f (states_after_script s f (before_frame s f)) v) (after f (lines (lines_of s f v) (before_frame s f v) (before f)))

  pub keeps_nothing : (f : ℕ) → kept_of (state_at s f v) ≡ []
  keeps_nothing f = lines (lines_of s f v) (before_frame s f v) (before f)
