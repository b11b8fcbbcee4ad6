-- What a host keeps on pace stays so along a run: the script asks for no faster stream, and rounds and ends of frames keep it.
use Rattle.std.proofs.Common.{◌≡◌, ◌<◌, ◌+◌, ◌&&◌, ◌||◌, ◌==◌, ℕ, zero, suc, List, [], ◌∷◌, Bool, true, false, if◌then◌else◌, inl, inr, filter, fold, refl, ◌∙◌}
use Rattle.std.proofs.Common.{ap}
use Rattle.law_times.proofs.Words.{list_any, ltb-false, Plan, ScenarioParts, ScriptLine, Act, On, Off, Declare, Leave, Put, Core, booted, frame_ended, State}
use Rattle.law_times.proofs.Words.{StateOff, StateOn, at_core, state_after_act, Stream, cleared, emptied, put_to, queued, refuses, stream_at, wishes}
use Rattle.law_times.proofs.Words.{with_stream, before_frame, state_at, before_slot, rounds, setup_of, lines_of, state_after_line, states_after_script}
use Rattle.law_times.proofs.Words.{rounds_keep, slots_keep, HasSlowStreams, is_fast, or_parts}
use Rattle.law_times.proofs.KeptWishes.{set_wish}
use Rattle.law_times.proofs.PacedHosts.{AsksSlowly, Keeps, KeepsPace, closes, ends, opens, says, slow_same}
use Rattle.law_times.proofs.PacedTables.{IsSlow}

-- script lines
module _ (seconds : ℕ) where
  wished : (i interval : ℕ) (c : Core) (x : Stream) → IsSlow seconds x.wish → KeepsPace seconds c
      → KeepsPace seconds (record c { streams = with_stream i x c.streams })
  wished i interval c x slow is = record {
    wishes = λ k. set_wish (IsSlow seconds) c.streams.all i k x slow (is.wishes k);
    kept = is.kept;
    table = is.table;
  }

  booted_keeps : (boots : ℕ) → KeepsPace seconds (booted (boots + 1))
  booted_keeps boots = record { wishes = none; kept = tt; table = tt }
    where
      none : (i : ℕ) → IsSlow seconds (stream_at cleared i).wish
      none zero = inl refl
      none (suc zero) = inl refl
      none (suc (suc zero)) = inl refl
      none (suc (suc (suc zero))) = inl refl
      none (suc (suc (suc (suc i)))) = inl refl

  acts : (a : Act) (x : State) → is_fast seconds a ≡ false → Keeps seconds x → Keeps seconds (state_after_act a x)
  acts On (StateOff boots) slow is = booted_keeps boots
  acts On (StateOn c) slow is = is
  acts Off (StateOff boots) slow is = tt
  acts Off (StateOn c) slow is = tt
  acts (Declare i interval) (StateOff boots) slow is = tt
  acts (Declare i interval) (StateOn c) slow is =
      wished i interval c (wishes interval (stream_at c.streams i)) (inr (ltb-false interval seconds slow)) is
  acts (Leave i) (StateOff boots) slow is = tt
  acts (Leave i) (StateOn c) slow is = wished i 0 c (emptied (stream_at c.streams i)) (inl refl) is
  acts (Put i payload) (StateOff boots) slow is = tt
  acts (Put i payload) (StateOn c) slow is =
      wished i 0 c (put_to payload (stream_at c.streams i)) (slow_same seconds _ _ (put_wish (refuses (stream_at c.streams i))) (is.wishes i)) is
    where
      put_wish : (b : Bool) → (if b then stream_at c.streams i else queued payload (stream_at c.streams i)).wish ≡ (stream_at c.streams i).wish
      put_wish true = refl
      put_wish false = refl

  lines : (ls : List ScriptLine) (x : State) → list_any (λ l. is_fast seconds l.act) ls ≡ false → Keeps seconds x → Keeps seconds (fold state_after_line x ls)
  lines [] x slow is = is
  lines (l ∷ ls) x slow is =
      (let both = or_parts (is_fast seconds l.act) (list_any (λ l. is_fast seconds l.act) ls) slow in
      lines ls (state_after_line x l) both.1 (acts l.act x both.0 is))

none_kept : (p keep : ScriptLine → Bool) (ls : List ScriptLine) → list_any p ls ≡ false → list_any p (filter keep ls) ≡ false
none_kept p keep [] none = refl
none_kept p keep (l ∷ ls) none = by_test (keep l) (or_parts (p l) (list_any p ls) none) (none_kept p keep ls)
  where
    by_test : (b : Bool) → (p l ≡ false) × (list_any p ls ≡ false) → (list_any p ls ≡ false → list_any p (filter keep ls) ≡ false)
        → list_any p (if b then l ∷ filter keep ls else filter keep ls) ≡ false
    by_test true both rest = ap (λ (b : Bool). b || list_any p (filter keep ls)) both.0 ∙ rest both.1
    by_test false both rest = rest both.1

module _ (s : ScenarioParts) (slow : HasSlowStreams s) (some : 0 < s.profile.seconds) where
  told : (f : ℕ) (g : ℕ → State) → ((v : ℕ) → Keeps s.profile.seconds (g v)) → (v : ℕ) → Keeps s.profile.seconds (states_after_script s f g v)
  told f g all v =
      lines s.profile.seconds (lines_of s f v) (g v)
      (none_kept (λ l. is_fast s.profile.seconds l.act) (λ l. (l.node == v) && (l.frame == f)) s.script slow) (all v)

  run : (f : ℕ) (g : ℕ → State) → ((v : ℕ) → Keeps s.profile.seconds (g v)) → (v : ℕ) → Keeps s.profile.seconds (rounds s f g v)
  run f g all =
      rounds_keep s f (λ v x. Keeps s.profile.seconds x) (AsksSlowly s.profile.seconds) (λ v part c is. opens (setup_of s v) f some part c is)
      (λ v part c m is said. says (setup_of s v) f some part c m is said) (λ v part b c o told is. closes (setup_of s v) f some part b c o told is) g all

  ended : (f v : ℕ) (x : State) → Keeps s.profile.seconds x → Keeps s.profile.seconds (at_core (frame_ended (setup_of s v) f) x)
  ended f v (StateOff boots) is = tt
  ended f v (StateOn c) is = ends (setup_of s v) f some c is

  before : (f v : ℕ) → Keeps s.profile.seconds (before_frame s f v)
  unfolding before_frame
  before zero v = tt
  before (suc f) v =
      (let g = states_after_script s f (before_frame s f) in
      ended f v (rounds s f g v) (run f g (told f (before_frame s f) (before f)) v))

  pub at_frame : (f v : ℕ) → Keeps s.profile.seconds (state_at s f v)
  at_frame f v = told f (before_frame s f) (before f) v

  pub at_slot : (rank f : ℕ) (p : Plan) (j v : ℕ) → Keeps s.profile.seconds (before_slot s rank f p (state_at s f) j v)
  at_slot rank f p =
      slots_keep s f (λ v x. Keeps s.profile.seconds x) (AsksSlowly s.profile.seconds) (λ v part c is. opens (setup_of s v) f some part c is)
      (λ v part c m is said. says (setup_of s v) f some part c m is said) (λ v part b c o told is. closes (setup_of s v) f some part b c o told is) rank p
      (state_at s f) (at_frame f)
