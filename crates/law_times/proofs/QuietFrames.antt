-- A frame in which nobody hosts the rank of a node changes its tune as if it had heard nothing, and its plan only where it becomes
-- a host; and the script lines at the start of a frame change neither, where they do not switch it.
use Rattle.std.proofs.Common.{◌≡◌, ◌<◌, ◌≤◌, ◌&&◌, ◌==◌, ℕ, suc, List, [], ◌∷◌, Bool, true, false, Option, Some, None, if◌then◌else◌, is_some, nat_lt, nat_le}
use Rattle.std.proofs.Common.{filter, fold, length, refl, sym, ◌∙◌, ap, subst}
use Rattle.law_times.proofs.Words.{list_any, false≢true, eqb-true, lt-ltb, le-leb, Plan, Numbers, ScenarioParts, ScriptLine, Act, Tune, Core, Setup, as_host}
use Rattle.law_times.proofs.Words.{begins_host, frame_ended, is_fresh, empty_plan, own_rank, State, StateOff, StateOn, at_core, rank_of, next_tune}
use Rattle.law_times.proofs.Words.{before_frame, state_at, rounds, rank_in, setup_of, lines_of, state_after_line, turns_off, has_line, StaysOn, or_parts}
use Rattle.law_times.proofs.QuietRounds.{NobodyHosts, quiet_rounds}
use Rattle.law_times.proofs.Settings.{Setting, setting, idle, of_core, act_same}

-- at the start of frame f, after its script lines, v is on and idle, with this tune and plan
abbrev pub Goes : ScenarioParts → ℕ → ℕ → Tune → Plan → Type 0
Goes s f v t p = setting (state_at s f v) ≡ Some (idle t p)

abbrev pub rank_at : Option Setting → ℕ
rank_at None = 0
rank_at (Some k) = rank_of k.tune

rank_by_setting : (x : State) → rank_in x ≡ rank_at (setting x)
rank_by_setting (StateOff boots) = refl
rank_by_setting (StateOn c) = refl

pub goes_rank : (s : ScenarioParts) (f v : ℕ) (t : Tune) (p : Plan) → Goes s f v t p → rank_in (state_at s f v) ≡ rank_of t
goes_rank s f v t p goes = rank_by_setting (state_at s f v) ∙ ap rank_at goes

-- script lines without an off
lines_same : (ls : List ScriptLine) (x : State) (k : Setting) → list_any (λ l. turns_off l.act) ls ≡ false → setting x ≡ Some k
    → setting (fold state_after_line x ls) ≡ Some k
lines_same [] x k none is = is
lines_same (l ∷ ls) x k none is =
    let both = or_parts (turns_off l.act) (list_any (λ l. turns_off l.act) ls) none in
    lines_same ls (state_after_line x l) k both.1 (act_same l.act x k both.0 is)

-- what no line of the script is at a node in some frames, no line of one of these frames is
pub none_in_frame : (test : Act → Bool) (s : ScenarioParts) (b e v f : ℕ) → has_line test s b e v ≡ false → b < f → f ≤ e
    → list_any (λ l. test l.act) (lines_of s f v) ≡ false
none_in_frame test s b e v f none after within = by_script s.script none
  where
    kept : (l : ScriptLine) → ((l.node == v) && (l.frame == f)) ≡ true → test l.act ≡ true
        → ((l.node == v) && test l.act && nat_lt b l.frame && nat_le l.frame e) ≡ true
    kept l here is =
        let parts = both (l.node == v) (l.frame == f) here in
        let at : l.frame ≡ f = eqb-true l.frame f parts.1 in
        let low : nat_lt b l.frame ≡ true = lt-ltb b l.frame (subst (λ (n : ℕ). b < n) (sym at) after) in
        let high : nat_le l.frame e ≡ true = le-leb l.frame e (subst (λ (n : ℕ). n ≤ e) (sym at) within) in
        rw (parts.0, is, low, high) refl
      where
        both : (a b : Bool) → (a && b) ≡ true → (a ≡ true) × (b ≡ true)
        both true b is = (refl, is)
        both false b is = absurd (false≢true is)

    by_script : (ls : List ScriptLine) → list_any (λ l. (l.node == v) && test l.act && nat_lt b l.frame && nat_le l.frame e) ls ≡ false
        → list_any (λ l. test l.act) (filter (λ l. (l.node == v) && (l.frame == f)) ls) ≡ false
    by_script [] none = refl
    by_script (l ∷ ls) none = by_test ((l.node == v) && (l.frame == f)) refl (test l.act) refl both.0 (by_script ls both.1)
      where
        both : (((l.node == v) && test l.act && nat_lt b l.frame && nat_le l.frame e) ≡ false)
            × (list_any (λ l. (l.node == v) && test l.act && nat_lt b l.frame && nat_le l.frame e) ls ≡ false)
        both = or_parts _ _ none

        by_test : (here : Bool) → ((l.node == v) && (l.frame == f)) ≡ here → (is : Bool) → test l.act ≡ is
            → ((l.node == v) && test l.act && nat_lt b l.frame && nat_le l.frame e) ≡ false
            → list_any (λ l. test l.act) (filter (λ l. (l.node == v) && (l.frame == f)) ls) ≡ false
            → list_any (λ l. test l.act) (if here then l ∷ filter (λ l. (l.node == v) && (l.frame == f)) ls
            else filter (λ l. (l.node == v) && (l.frame == f)) ls) ≡ false
        by_test false here is at not rest = rest
        by_test true here false at not rest = rw at rest
        by_test true here true at not rest = absurd (false≢true (sym not ∙ kept l here at))

pub script_same : (s : ScenarioParts) (b e f v : ℕ) (k : Setting) → StaysOn s b e v → b < f → f ≤ e → setting (before_frame s f v) ≡ Some k
    → setting (state_at s f v) ≡ Some k
script_same s b e f v k stays after within is = lines_same (lines_of s f v) (before_frame s f v) k (none_in_frame turns_off s b e v f stays after within) is

-- the end of a frame
pub host_tune : (n : Numbers) (o : Option ℕ) (c : Core) → (as_host n o c).tune ≡ c.tune
host_tune n None c = refl
host_tune n (Some rank) c = refl

pub host_slot : (n : Numbers) (o : Option ℕ) (c : Core) → (as_host n o c).own_slot ≡ c.own_slot
host_slot n None c = refl
host_slot n (Some rank) c = refl

abbrev pub fresh : Setting → Bool
fresh k = is_some k.own_slot

-- the plan that a new host begins with
abbrev pub plan_of : Numbers → ℕ → Option ℕ → Plan → Plan
plan_of n boot None p = p
plan_of n boot (Some rank) p = empty_plan n rank boot

pub host_setting : (n : Numbers) (o : Option ℕ) (c : Core)
    → of_core (as_host n o c) ≡ record { tune = c.tune; own_slot = c.own_slot; plan = plan_of n c.boot o c.plan }
host_setting n None c = refl
host_setting n (Some rank) c = refl

pub ended : (q : Setup) (f : ℕ) (x : State) (k : Setting) → setting x ≡ Some k
    → (boot : ℕ) × (setting (at_core (frame_ended q f) x)
    ≡ Some (idle (next_tune k.tune f (fresh k) q.own q.ranks)
    (plan_of q.profile boot (begins_host k.tune (next_tune k.tune f (fresh k) q.own q.ranks)) k.plan)))
ended q f (StateOff boots) k is = absurd (cc)
ended q f (StateOn c) k is =
    let same : of_core c ≡ k = cc in
    subst (λ (k : Setting). (boot : ℕ) × (setting (at_core (frame_ended q f) (StateOn c)) ≡ Some
    (idle (next_tune k.tune f (fresh k) q.own q.ranks)
    (plan_of q.profile boot (begins_host k.tune (next_tune k.tune f (fresh k) q.own q.ranks)) k.plan)))) same (
      c.boot,
      ap (λ (k : Setting). Some k) (host_setting q.profile (begins_host c.tune (next_tune c.tune f (is_fresh c) q.own q.ranks))
          (record c { tune = next_tune c.tune f (is_fresh c) q.own q.ranks; own_slot = None })),
    )

-- a whole quiet frame, up to the script lines of the next one
module _ (s : ScenarioParts) where
  abbrev pub after_quiet : ℕ → ℕ → Tune → Tune
  after_quiet f v t = next_tune t f false (own_rank v s.hosts) (length s.hosts)

  pub quiet_frame : (b e f v : ℕ) (t : Tune) (p : Plan) → StaysOn s b e v → b < suc f → suc f ≤ e → Goes s f v t p → NobodyHosts s (rank_of t) f
      → (boot : ℕ) × Goes s (suc f) v (after_quiet f v t) (plan_of s.profile boot (begins_host t (after_quiet f v t)) p)
  unfolding before_frame
  quiet_frame b e f v t p stays after within goes nobody =
      let of_rank : NobodyHosts s (rank_in (state_at s f v)) f = subst (λ (r : ℕ). NobodyHosts s r f) (sym (goes_rank s f v t p goes)) nobody in
      let round : setting (rounds s f (state_at s f) v) ≡ Some (idle t p) = quiet_rounds s f v of_rank ∙ goes in
      let end = ended (setup_of s v) f (rounds s f (state_at s f) v) (idle t p) round in
      (end.0, script_same s b e (suc f) v (idle (after_quiet f v t) (plan_of s.profile end.0 (begins_host t (after_quiet f v t)) p)) stays after within end.1)
