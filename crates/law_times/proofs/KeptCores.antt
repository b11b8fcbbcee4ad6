-- What is known of the core of a node that is on, from the end of a frame to the next frame: the script lines in between change its streams alone.
use Rattle.std.proofs.Common.{◌≡◌, ◌≤◌, ℕ, suc, List, [], ◌∷◌, Bool, false, None, fold, sym, ap, arith}
use Rattle.law_times.proofs.Words.{list_any, false≢true, or_parts, ScenarioParts, ScriptLine, setup_of, Act, On, Off, Declare, Leave, Put, Core, frame_ended}
use Rattle.law_times.proofs.Words.{Setup, Tune, Hold, as_host, begins_host, is_fresh, next_tune}
use Rattle.law_times.proofs.Words.{State, StateOff, StateOn, at_core, core_after_act, state_after_act, state_at, before_frame, rounds, lines_of}
use Rattle.law_times.proofs.Words.{state_after_line, StaysOn, has_line, turns_off}
use Rattle.law_times.proofs.QuietFrames.{none_in_frame}

abbrev pub OnWith : (Core → Type 0) → State → Type 0
OnWith P (StateOff boots) = ⊥
OnWith P (StateOn c) = P c

-- where no line switches the node off, and none is of a kind that may change it
module _ (P : Core → Type 0) (changes : Act → Bool) (keeps : (a : Act) (c : Core) → changes a ≡ false → P c → P (core_after_act a c)) where
  act_keeps : (a : Act) (x : State) → turns_off a ≡ false → changes a ≡ false → OnWith P x → OnWith P (state_after_act a x)
  act_keeps a (StateOff boots) stays same is = absurd is
  act_keeps On (StateOn c) stays same is = is
  act_keeps Off (StateOn c) stays same is = absurd (false≢true (sym stays))
  act_keeps (Declare i interval) (StateOn c) stays same is = keeps (Declare i interval) c same is
  act_keeps (Leave i) (StateOn c) stays same is = keeps (Leave i) c same is
  act_keeps (Put i payload) (StateOn c) stays same is = keeps (Put i payload) c same is

  lines_keep : (ls : List ScriptLine) (x : State) → list_any (λ l. turns_off l.act) ls ≡ false → list_any (λ l. changes l.act) ls ≡ false
      → OnWith P x → OnWith P (fold state_after_line x ls)
  lines_keep [] x stays same is = is
  lines_keep (l ∷ ls) x stays same is =
      let on = or_parts (turns_off l.act) (list_any (λ l. turns_off l.act) ls) stays in
      let kept = or_parts (changes l.act) (list_any (λ l. changes l.act) ls) same in
      lines_keep ls (state_after_line x l) on.1 kept.1 (act_keeps l.act x on.0 kept.0 is)

  pub next_keeps : (s : ScenarioParts) (b e v f : ℕ) → StaysOn s b e v → has_line changes s b e v ≡ false → b ≤ f → suc f ≤ e
      → OnWith P (at_core (frame_ended (setup_of s v) f) (rounds s f (state_at s f) v)) → OnWith P (state_at s (suc f) v)
  unfolding before_frame
  next_keeps s b e v f stays same after within is =
      lines_keep (lines_of s (suc f) v) (before_frame s (suc f) v) (none_in_frame turns_off s b e v (suc f) stays (omega (arith, after)) within)
      (none_in_frame changes s b e v (suc f) same (omega (arith, after)) within) is

-- who holds a rank, or has just lost its round, begins no rank of its own
pub holder_ends : (q : Setup) (f : ℕ) (c : Core) (r d : ℕ) → c.tune ≡ Hold r d
    → frame_ended q f c ≡ record c { tune = next_tune c.tune f (is_fresh c) q.own q.ranks; own_slot = None }
holder_ends q f c r d hold =
    ap (λ (t : Tune). as_host q.profile (begins_host t (next_tune c.tune f (is_fresh c) q.own q.ranks))
    (record c { tune = next_tune c.tune f (is_fresh c) q.own q.ranks; own_slot = None })) hold
