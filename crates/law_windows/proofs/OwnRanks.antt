-- The schedule that a window accepts is of the window's rank, so a node that closes it keeps its rank.
use Rattle.std.proofs.Common.{◌≡◌, ℕ, List, Bool, true, false, not, ◌==◌, if◌then◌else◌, Some, None, Option, option_map, refl, subst, eqb-true, true≢false}
use Rattle.std.specs.Bool.{⊤}
use Rattle.std.specs.Option.{option_and_then}
use Rattle.std.proofs.lemmas.Bool.{cond_both}
use Rattle.lwb_base.specs.Messages.{Schedule}
use Rattle.lwb_packets.specs.declared.kind.Kind as Kind
use Rattle.glossy_relay.specs.FloodState.{FloodState, listening}
use Rattle.glossy_relay.specs.Relaying.{fits, first_of, after_heard, counter_of, slot_of}
use Rattle.bus_rules.specs.declared.part.Part.{Part}
use Rattle.bus_rules.specs.Cores.{Setup}
use Rattle.bus_rules.specs.Slots.{Message, ScheduleOf, DataOf, RequestOf, part_of, opened_slot}
use Rattle.lwb_member.specs.Said.{message_of}
use Rattle.node_core.specs.Windows.{Window}
use Rattle.node_core.specs.Nodes.{Node}
use Rattle.node_core.specs.Rows.{flood_for, flood_by, is_foreign, accepted_in, window_closes}
use Rattle.scenario_text.specs.ScenarioParts.{ScenarioParts}
use Rattle.air_log.specs.declared.entry.Entry.{Entry}
use Rattle.scenario_text.specs.Setups.{setup_of}
use Rattle.air_log.specs.WindowLogs.{WindowLog}
use Rattle.law_safety.specs.SetAlarms.{rank_at}
use Rattle.law_windows.specs.WindowSteps.{KeepsWindows}
use Rattle.law_windows.proofs.AcceptedRanks.{IsOfRank, closed_rank}

-- a packet that says a schedule says one of this rank
abbrev IsOwnPacket : ℕ → List ℕ → Type 0
IsOwnPacket rank p = (y : Schedule) → message_of p ≡ Some (ScheduleOf y) → y.plan.rank ≡ rank

-- so does the first packet of a flood that listens
abbrev IsOwnFirst : ℕ → Bool → Option (List ℕ) → Type 0
IsOwnFirst rank true first = ⊤
IsOwnFirst rank false None = ⊤
IsOwnFirst rank false (Some p) = IsOwnPacket rank p

abbrev pub HasOwnFlood : ℕ → FloodState → Type 0
HasOwnFlood rank flood = IsOwnFirst rank flood.initiated flood.first

-- where it opens
begun_own : (s : Setup) (part : Part) (j rank : ℕ) (m : Option Message) → HasOwnFlood rank (flood_for s part j m)
begun_own s part j rank None = tt
begun_own s part j rank (Some m) = tt

-- where it receives
first_own : (rank : ℕ) (initiated : Bool) (first : Option (List ℕ)) (p : List ℕ) → IsOwnFirst rank initiated first → IsOwnPacket rank p
    → IsOwnFirst rank initiated (first_of first p)
first_own rank true first p own is = tt
first_own rank false None p own is = is
first_own rank false (Some q) p own is = own

heard_own : (rank : ℕ) (flood : FloodState) (p : List ℕ) → HasOwnFlood rank flood → IsOwnPacket rank p → HasOwnFlood rank (after_heard flood p)
heard_own rank flood p own is =
    cond_both (fits flood p) _ _ (HasOwnFlood rank) (λ takes. first_own rank flood.initiated flood.first p own is) (λ ignores. own)

not_foreign : (rank : ℕ) (m : Option Message) → is_foreign rank m ≡ false → (y : Schedule) → m ≡ Some (ScheduleOf y) → y.plan.rank ≡ rank
not_foreign rank None native y says = absurd cc
not_foreign rank (Some (DataOf d)) native y says = absurd cc
not_foreign rank (Some (RequestOf a)) native y says = absurd cc
not_foreign rank (Some (ScheduleOf x)) native y says =
    let same : x ≡ y = cc in
    by_test (y.plan.rank == rank) refl (subst (λ (z : Schedule). not (z.plan.rank == rank) ≡ false) same native)
  where
    by_test : (b : Bool) → (y.plan.rank == rank) ≡ b → not b ≡ false → y.plan.rank ≡ rank
    by_test true is native = eqb-true y.plan.rank rank is
    by_test false is native = absurd (true≢false native)

hears_own : (rank : ℕ) (w : Window) (p : List ℕ) → HasOwnFlood rank w.flood → HasOwnFlood rank (flood_by rank w p)
hears_own rank w p own =
    cond_both (is_foreign rank (message_of p)) w.flood (after_heard w.flood p) (HasOwnFlood rank)
    (λ foreign. own)
    (λ native. heard_own rank w.flood p own (λ y says. not_foreign rank (message_of p) native y says))

module _ (s : ScenarioParts) (clocks : ℕ → ℕ → ℕ) (air : List Entry) (v : ℕ) where
  abbrev pub IsOwn : WindowLog → Type 0
  IsOwn x = HasOwnFlood x.rank x.last.flood

  pub own_steps : (t : ℕ) → KeepsWindows s clocks air v (λ now taken w. IsOwn w) t
  own_steps t = record {
    begun = λ d n j fine due on stage.
        (let S = setup_of s v in
        let part = part_of n.core.plan j in
        begun_own S part j (rank_at n) (opened_slot S n.frame part n.core).message);
    joined = λ d h n y fine next now on stage says rank.
        heard_own (rank_at n) (listening Kind.TheVariants.Schedule (slot_of h.packet) s.sends) h.packet tt
        (λ z says_z. (let same : y ≡ z = cc in subst (λ (u : Schedule). u.plan.rank ≡ rank_at n) same rank));
    heard = λ d h n j w x fine next now on stage is in_it known.
        subst (λ (r : ℕ). HasOwnFlood x.rank (flood_by r w h.packet)) is.rank
        (hears_own x.rank w h.packet (subst (λ (u : Window). HasOwnFlood x.rank u.flood) is.last known));
    taken = λ d fine is before now x there. now.each x there;
    passed = λ x known. known;
    sent = λ d y n j w x fine enters own ends on stage waiting is in_it known. subst (λ (u : Window). HasOwnFlood x.rank u.flood) is.last known;
    closed = λ d n j w x fine due on stage is known. known;
  }

-- what it has accepted
accepted_own : (rank : ℕ) (initiated : Bool) (first : Option (List ℕ)) → IsOwnFirst rank initiated first → (y : Schedule)
    → option_and_then (λ (a : List ℕ × ℕ). message_of a.0)
    (if initiated then None else option_map {U = List ℕ × ℕ} (λ p. (p, counter_of p)) first) ≡ Some (ScheduleOf y)
    → y.plan.rank ≡ rank
accepted_own rank true first own y is = absurd cc
accepted_own rank false None own y is = absurd cc
accepted_own rank false (Some p) own y is = own y is

-- so it is a schedule of that rank, if it is one
accepted_rank : (rank : ℕ) (m : Option Message) → ((y : Schedule) → m ≡ Some (ScheduleOf y) → y.plan.rank ≡ rank) → IsOfRank rank m
accepted_rank rank None own = tt
accepted_rank rank (Some (ScheduleOf y)) own = own y refl
accepted_rank rank (Some (DataOf d)) own = tt
accepted_rank rank (Some (RequestOf a)) own = tt

-- the node that closes it keeps its rank
pub closing_rank : (s : Setup) (n : Node) (j : ℕ) (w : Window) → HasOwnFlood (rank_at n) w.flood → rank_at (window_closes s n j w).node ≡ rank_at n
closing_rank s n j w own =
    closed_rank s n.frame w.part w.flood.initiated n.core (accepted_in w)
    (accepted_rank (rank_at n) (accepted_in w) (λ y is. accepted_own (rank_at n) w.flood.initiated w.flood.first own y is))
