-- From frame to frame a member asks on, and its host keeps its boot.
use Rattle.std.proofs.Common.{◌≡◌, ◌≤◌, ℕ, suc, List, false, None, refl, sym, ◌∙◌, subst}
use Rattle.bus_terms.proofs.NumbersKept.{closed_core, opened_core}
use Rattle.law_times.proofs.Words.{false≢true, Ask, Plan, Numbers, ScenarioParts, Act, On, Off, Declare, Leave, Put, Hold, Core, Setup}
use Rattle.law_times.proofs.Words.{frame_ended, is_fresh, host_plan, State, StateOff, StateOn, at_core, Streams, after_put, Table, next_tune}
use Rattle.law_times.proofs.Words.{state_at, before_slot, rounds, setup_of, rounds_keep, slots_keep, changes_wish, StaysOn, has_line, turns_off, core_after_act}
use Rattle.law_times.proofs.Backoffs.{Backoff}
use Rattle.law_times.proofs.KeptCores.{OnWith, holder_ends, next_keeps}
use Rattle.law_times.proofs.NewStreams.{put_goes, same_streams, AsksCore, asks_on}
use Rattle.law_times.proofs.QueuedPackets.{ended_same}

module _ (boot i rank host_boot : ℕ) (b : Backoff) where
  abbrev pub Asking : State → Type 0
  Asking = OnWith (AsksCore boot i rank host_boot b)

  act_asks : (a : Act) (c : Core) → changes_wish a ≡ false → AsksCore boot i rank host_boot b c → AsksCore boot i rank host_boot b (core_after_act a c)
  act_asks On c keeps is = is
  act_asks Off c keeps is = is
  act_asks (Declare j interval) c keeps is = absurd (false≢true (sym keeps))
  act_asks (Leave j) c keeps is = absurd (false≢true (sym keeps))
  act_asks (Put j payload) c keeps is =
      asks_on boot i rank host_boot b c (record c { streams = after_put j payload c.streams }) refl (put_goes j payload c.streams i) is

  -- at the end of a frame
  end_asks : (q : Setup) (f : ℕ) (c : Core) (r d : ℕ) → c.tune ≡ Hold r d → AsksCore boot i rank host_boot b c
      → AsksCore boot i rank host_boot b (frame_ended q f c)
  end_asks q f c r d hold is =
      subst (AsksCore boot i rank host_boot b) (sym (holder_ends q f c r d hold))
      (asks_on boot i rank host_boot b c (record c { tune = next_tune c.tune f (is_fresh c) q.own q.ranks; own_slot = None }) refl
      (same_streams c.streams i) is)

  pub next_asks : (s : ScenarioParts) (first e f u : ℕ) (c : Core) (r d : ℕ) → StaysOn s first e u → has_line changes_wish s first e u ≡ false
      → first ≤ f → suc f ≤ e → rounds s f (state_at s f) u ≡ StateOn c → c.tune ≡ Hold r d → AsksCore boot i rank host_boot b c
      → Asking (state_at s (suc f) u)
  next_asks s first e f u c r d stays keeps after within on hold is =
      next_keeps (AsksCore boot i rank host_boot b) changes_wish act_asks s first e u f stays keeps after within
      (subst (λ (x : State). Asking (at_core (frame_ended (setup_of s u) f) x)) (sym on) (end_asks (setup_of s u) f c r d hold is))

-- a boot lasts as long as its node is on
abbrev pub HasBoot : ℕ → State → Type 0
HasBoot boot = OnWith (λ c. c.boot ≡ boot)

module _ (s : ScenarioParts) (f boot host : ℕ) (is : HasBoot boot (state_at s f host)) where
  abbrev Kept : ℕ → State → Type 0
  Kept v x = v ≡ host → HasBoot boot x

  starts : (v : ℕ) → Kept v (state_at s f v)
  starts v same = subst (λ (u : ℕ). HasBoot boot (state_at s f u)) (sym same) is

  pub boot_in_slots : (rank : ℕ) (p : Plan) (j : ℕ) → HasBoot boot (before_slot s rank f p (state_at s f) j host)
  boot_in_slots rank p j =
      slots_keep s f Kept (λ m. Unit {0}) (λ v part c keeps same. (opened_core (setup_of s v) f part c).boot ∙ keeps same) (λ v part c m keeps said. tt)
      (λ v part b c o told keeps same. (closed_core (setup_of s v) f part b c o).boot ∙ keeps same) rank p (state_at s f) starts j host refl

  boot_in_rounds : HasBoot boot (rounds s f (state_at s f) host)
  boot_in_rounds =
      rounds_keep s f Kept (λ m. Unit {0}) (λ v part c keeps same. (opened_core (setup_of s v) f part c).boot ∙ keeps same) (λ v part c m keeps said. tt)
      (λ v part b c o told keeps same. (closed_core (setup_of s v) f part b c o).boot ∙ keeps same) (state_at s f) starts host refl

  pub next_boot : (first e : ℕ) → StaysOn s first e host → first ≤ f → suc f ≤ e → HasBoot boot (state_at s (suc f) host)
  next_boot first e stays after within =
      next_keeps (λ c. c.boot ≡ boot) turns_off (λ a c same has. has) s first e host f stays stays after within
      (ended (rounds s f (state_at s f) host) boot_in_rounds)
    where
      ended : (x : State) → HasBoot boot x → HasBoot boot (at_core (frame_ended (setup_of s host) f) x)
      ended (StateOff boots) has = has
      ended (StateOn c) has = (ended_same (setup_of s host) f c).boot ∙ has

-- a plan is of its host's boot
pub planned_boot : (n : Numbers) (node boot rank f : ℕ) (kept : List Ask) (t : Table) (x : Streams)
    → (host_plan n node boot rank f kept t x).plan.boot ≡ boot
unfolding host_plan
planned_boot n node boot rank f kept t x = refl
