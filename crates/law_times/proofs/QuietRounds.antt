-- A round of a rank that nobody hosts in its frame leaves tune, plan and freshness of each node as they are.
use Rattle.std.proofs.Common.{◌≡◌, ◌+◌, ◌≤◌, ℕ, Bool, true, false, Option, Some, None, is_some, refl, sym, ◌∙◌, ap, arith}
use Rattle.law_times.proofs.Words.{false≢true, Plan, ScenarioParts, Core, is_member, own_rank, last_slot, Message, opened_slot, hosts_now, State, StateOff}
use Rattle.law_times.proofs.Words.{StateOn, hosts_in, member_hosts, state_at, after_round, before_slot, round_of_rank, round_plan, rounds, rank_in, setup_of}
use Rattle.law_times.proofs.Words.{is_on_and, IsRightfulState, rightful, one_of_rank, due_hosts, due_rank}
use Rattle.law_times.proofs.Settings.{Setting, setting, IsOther, says_other, opened_same, closed_same}
use Rattle.law_times.proofs.SlotInvariants.{keeps}

abbrev pub hosts_round : ℕ → ℕ → State → Bool
hosts_round rank f x = is_on_and (λ c. hosts_in rank f c.tune) x

abbrev pub NobodyHosts : ScenarioParts → ℕ → ℕ → Type 0
NobodyHosts s rank f = (v : ℕ) → hosts_round rank f (state_at s f v) ≡ false

-- by its setting
abbrev pub set_to_host : ℕ → ℕ → Option Setting → Bool
set_to_host rank f None = false
set_to_host rank f (Some k) = hosts_in rank f k.tune

pub by_setting : (rank f : ℕ) (x : State) → hosts_round rank f x ≡ set_to_host rank f (setting x)
by_setting rank f (StateOff boots) = refl
by_setting rank f (StateOn c) = refl

-- who hosts a rank is the node that the scenario names for it
pub host_is_own : (s : ScenarioParts) (rank f v : ℕ) → hosts_round rank f (state_at s f v) ≡ true → own_rank v s.hosts ≡ Some rank
host_is_own s rank f v = by_state (state_at s f v) (rightful s f v)
  where
    by_state : (x : State) → IsRightfulState (setup_of s v) x → hosts_round rank f x ≡ true → own_rank v s.hosts ≡ Some rank
    by_state (StateOff boots) is due = absurd (false≢true due)
    by_state (StateOn c) is due = is.own (due_hosts rank f c.tune due) ∙ ap (λ (r : ℕ). Some r) (due_rank rank f c.tune due)

-- where that node does not, nobody does
pub nobody_else : (s : ScenarioParts) (rank f host : ℕ) → own_rank host s.hosts ≡ Some rank → hosts_round rank f (state_at s f host) ≡ false
    → NobodyHosts s rank f
nobody_else s rank f host own idle v = by_test (hosts_round rank f (state_at s f v)) refl
  where
    by_test : (b : Bool) → hosts_round rank f (state_at s f v) ≡ b → hosts_round rank f (state_at s f v) ≡ false
    by_test false is = is
    by_test true is =
        let same : v ≡ host = one_of_rank s.hosts v host rank (host_is_own s rank f v is) own in
        ap (λ (u : ℕ). hosts_round rank f (state_at s f u)) same ∙ idle

not_true : (b : Bool) → (b ≡ true → ⊥) → b ≡ false
not_true true never = absurd (never refl)
not_true false never = refl

module _ (s : ScenarioParts) (rank f : ℕ) (nobody : NobodyHosts s rank f) where
  abbrev Same : ℕ → State → Type 0
  Same v x = setting x ≡ setting (state_at s f v)

  not_now : (v : ℕ) (c : Core) → is_member rank f c ≡ true → Same v (StateOn c) → hosts_now f c ≡ false
  not_now v c member same =
      not_true (hosts_now f c)
      (λ now. false≢true (false_is (member_hosts rank f c member now)))
    where
      false_is : hosts_in rank f c.tune ≡ true → false ≡ true
      false_is due = sym (nobody v) ∙ by_setting rank f (state_at s f v) ∙ ap (set_to_host rank f) (sym same) ∙ due

  in_slots : (p : Plan) (j : ℕ) → j ≤ last_slot p + 1 → (v : ℕ) → Same v (before_slot s rank f p (state_at s f) j v)
  in_slots p =
      keeps s rank f p (λ part. Unit {0}) Same (λ v part m. IsOther m)
      (λ v part c m allowed member is same said. says_other (setup_of s v) f part c m (not_now v c member same) said)
      (λ v part c heard allowed member same told.
      ap (λ (k : Setting). Some k) (closed_same (setup_of s v) f part (is_some (opened_slot (setup_of s v) f part c).message)
      (opened_slot (setup_of s v) f part c).core heard (λ m is. (told m is).said) ∙ opened_same (setup_of s v) f part c (not_now v c member same)) ∙ same)
      (λ v part c m allowed scanning same told.
      ap (λ (k : Setting). Some k) (closed_same (setup_of s v) f part false c (Some m) (λ n is. subst_other m n is told.said)) ∙ same)
      (last_slot p + 1) (λ j early. tt) (λ v. refl)
    where
      subst_other : (m n : Message) → Some m ≡ Some n → IsOther m → IsOther n
      subst_other m n is other y at = other y (let same : m ≡ n = cc in same ∙ at)

  pub quiet_round : (v : ℕ) → setting (round_of_rank s rank f (state_at s f) v) ≡ setting (state_at s f v)
  quiet_round v = by_plan (round_plan s rank f (state_at s f))
    where
      by_plan : (o : Option Plan) → setting (after_round s rank f (state_at s f) o v) ≡ setting (state_at s f v)
      by_plan None = refl
      by_plan (Some p) = in_slots p (last_slot p + 1) (omega arith) v

-- at a node of that rank
pub quiet_rounds : (s : ScenarioParts) (f v : ℕ) → NobodyHosts s (rank_in (state_at s f v)) f → setting (rounds s f (state_at s f) v) ≡ setting (state_at s f v)
quiet_rounds s f v nobody = quiet_round s (rank_in (state_at s f v)) f nobody v
