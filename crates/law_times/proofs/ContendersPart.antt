-- Two members that request in contention slots: in each round both go a turn on, until one of them requests alone or is acknowledged.
use Rattle.std.proofs.Common.{◌≡◌, ◌≢◌, ◌<◌, ◌≤◌, ◌+◌, ◌-◌, ◌*◌, ℕ, zero, suc, List, Bool, true, false, inl, inr, Some, None, if◌then◌else◌, length, refl, sym}
use Rattle.std.proofs.Common.{◌∙◌, ap, subst, arith, is_some, ◌⊎◌}
use Rattle.law_times.proofs.Words.{cases_eq, false≢true, Plan, IsOverScenario, ScenarioParts, IsSoundScenario, over_sound, Host, Core, last_slot, StateOn}
use Rattle.law_times.proofs.Words.{is_host}
use Rattle.law_times.proofs.Words.{state_at, has, IsHosted, slot_in, message_said, rounds, AreTwo, Asks, IsAnswered, IsHeardAlone, IsNamed, PartOnTheBus}
use Rattle.law_times.proofs.Words.{PassesOver, own_number, PartWithin}
use Rattle.law_times.proofs.BackoffRanges.{Ruled, ruled}
use Rattle.law_times.proofs.Backoffs.{Backoff, backoff_of, later, spot, spot_by, turn, turned, asks}
use Rattle.law_times.proofs.ContendingFrames.{Asking, HasBoot, next_boot}
use Rattle.law_times.proofs.ContendingMembers.{goes_on, heard_alone, idle_asks, mine_few, named_or_not, says, slots_of}
use Rattle.law_times.proofs.KeptMembers.{Members, quiet, step, to_members}
use Rattle.law_times.proofs.KnownHosts.{Knows, knows}
use Rattle.law_times.proofs.NewStreams.{new_due}
use Rattle.law_times.proofs.PacketFrames.{hosted_now}
use Rattle.law_times.proofs.PlannedRounds.{next_plan, planned_of_rank, planned_of_boot}
use Rattle.law_times.proofs.Settings.{core_at, idle}
use Rattle.law_times.proofs.SilentHosts.{host_silent}

module _ (s : ScenarioParts) (accepted : IsOverScenario s) (rank host f e : ℕ) (among : List ℕ) (u v slots : ℕ)
    (two : AreTwo s rank host f e among u v slots) where
  abbrev scenario : IsSoundScenario s
  scenario = over_sound s accepted

  abbrev M : ℕ → Type 0
  M x = Members s rank x host among

  -- both of them, with these tries and skips
  record Duel (x : ℕ) (b c : Backoff) : Type 0 where
    members : M x
    plan : (members.plan.rank ≡ rank) × (members.plan.boot ≡ two.boot)
    unnamed : PassesOver members.plan u two.first.core.boot × PassesOver members.plan v two.second.core.boot
    boot : HasBoot two.boot (state_at s x host)
    first : Asking two.first.core.boot two.first.stream rank two.boot b (state_at s x u)
    second : Asking two.second.core.boot two.second.stream rank two.boot c (state_at s x v)

  idle_duel : (x : ℕ) (b c : Backoff) → f ≤ x → suc x ≤ e → (d : Duel x b c) → x < d.members.due
      → (n : Duel (suc x) b c) × (n.members.due ≡ d.members.due)
  idle_duel x b c after soon d later =
      let next = quiet s accepted rank host f e among two.group x after soon d.members later in (
        record {
          members = next.0;
          plan = (ap (λ (p : Plan). p.rank) next.2 ∙ d.plan.0, ap (λ (p : Plan). p.boot) next.2 ∙ d.plan.1);
          unnamed = (
            subst (λ (p : Plan). PassesOver p u two.first.core.boot) (sym next.2) d.unnamed.0,
            subst (λ (p : Plan). PassesOver p v two.second.core.boot) (sym next.2) d.unnamed.1,
          );
          boot = next_boot s x two.boot host d.boot f e (two.group.stay host two.group.led) after soon;
          first = idle_asks s accepted rank host f e among slots two.boot two.group two.lossless two.named
              u two.first.core.boot two.first.stream two.there.0 two.guests.0 two.lines.0 x b after soon d.members later d.first;
          second = idle_asks s accepted rank host f e among slots two.boot two.group two.lossless two.named
              v two.second.core.boot two.second.stream two.there.1 two.guests.1 two.lines.1 x c after soon d.members later d.second;
        },
        next.1,
      )

  at_round : (more x : ℕ) (b c : Backoff) → f ≤ x → (d : Duel x b c) → x + more ≡ d.members.due → d.members.due ≤ e
      → (y : ℕ) × (x ≤ y) × (y ≤ x + more) × (n : Duel y b c) × (n.members.due ≡ y)
  at_round zero x b c after d at within = (x, omega arith, omega arith, d, omega (arith, at))
  at_round (suc more) x b c after d at within =
      let later : x < d.members.due = omega (arith, at) in
      let next = idle_duel x b c after (omega (arith, later, within)) d later in
      let there = at_round more (suc x) b c (omega (arith, after)) next.0 (let same = next.1 in omega (arith, at, same))
      (let same = next.1 in omega (arith, within, same)) in
      (there.0, (let low = there.1 in omega (arith, low)), (let high = there.2 in omega (arith, high)), there.3, there.4)

  -- a round of both: one is acknowledged, or both go on
  round_duel : (x : ℕ) (b c : Backoff) → f ≤ x → x + 5 ≤ e → (d : Duel x b c) → d.members.due ≡ x
      → IsAnswered s rank x host u v ⊎ Duel (suc x) (turn u b) (turn v c)
  round_duel x b c after soon d now =
      elim (named_or_not s accepted rank host f e among slots two.boot two.group two.lossless two.named
      u two.first.core.boot two.first.stream two.there.0 two.guests.0 two.lines.0
      x b d.members now after (omega (arith, soon)) d.first hosted d.plan.0 d.plan.1 d.unnamed.0.acks d.unnamed.0.owners next) [
        | inl first ↦ inl (answered (inl (inl first)))
        | inr not_first ↦ elim (named_or_not s accepted rank host f e among slots two.boot two.group two.lossless two.named
            v two.second.core.boot two.second.stream two.there.1 two.guests.1 two.lines.1
            x c d.members now after (omega (arith, soon)) d.second hosted d.plan.0 d.plan.1 d.unnamed.1.acks d.unnamed.1.owners next) [
              | inl second ↦ inl (answered (inl (inr second)))
              | inr not_second ↦ inr (both not_first not_second)
            ]
      ]
    where
      next : M (suc x)
      next = step s accepted rank host f e among two.group x after (omega (arith, soon)) (two.lossless x after (omega (arith, soon))) d.members

      hosted : IsHosted s rank x d.members.plan host
      hosted = hosted_now s accepted rank x host among d.members now

      answered : (IsNamed s rank x d.members.plan host u two.first.core.boot ⊎ IsNamed s rank x d.members.plan host v two.second.core.boot)
          ⊎ (IsHeardAlone s rank x d.members.plan host u ⊎ IsHeardAlone s rank x d.members.plan host v) → IsAnswered s rank x host u v
      answered answer = record { plan = d.members.plan; hosted = hosted; boots = (two.first.core.boot, two.second.core.boot); answer = answer }

      first_plan : (next.plan.rank ≡ rank) × (next.plan.boot ≡ two.boot)
      first_plan =
          (let same = next_plan s accepted rank host f e among two.group x d.members after (omega (arith, soon)) hosted next in (
            ap (λ (p : Plan). p.rank) (sym same) ∙ planned_of_rank s accepted rank host f e among two.group x d.members after (omega (arith, soon)) hosted,
            ap (λ (p : Plan). p.boot) (sym same)
                ∙ planned_of_boot s accepted rank host f e among two.group x d.members after (omega (arith, soon)) hosted two.boot d.boot,
          ))

      both : PassesOver next.plan u two.first.core.boot → PassesOver next.plan v two.second.core.boot → Duel (suc x) (turn u b) (turn v c)
      both not_first not_second = record {
        members = next;
        plan = first_plan;
        unnamed = (not_first, not_second);
        boot = next_boot s x two.boot host d.boot f e (two.group.stay host two.group.led) after (omega (arith, soon));
        first = goes_on s accepted rank host f e among slots two.boot two.group two.lossless two.named
            u two.first.core.boot two.first.stream two.there.0 two.guests.0 two.lines.0
            x b d.members now after (omega (arith, soon)) d.first hosted d.plan.0 d.plan.1 d.unnamed.0.acks d.unnamed.0.owners next d.boot
            not_first.acks not_first.owners;
        second = goes_on s accepted rank host f e among slots two.boot two.group two.lossless two.named
            v two.second.core.boot two.second.stream two.there.1 two.guests.1 two.lines.1
            x c d.members now after (omega (arith, soon)) d.second hosted d.plan.0 d.plan.1 d.unnamed.1.acks d.unnamed.1.owners next d.boot
            not_second.acks not_second.owners;
      }

  -- a round in which one of them requests, and the other does not, or both in different slots
  last_duel : (x : ℕ) (b c : Backoff) → f ≤ x → suc x ≤ e → (d : Duel x b c) → d.members.due ≡ x → spot slots u b ≢ spot slots v c
      → IsAnswered s rank x host u v
  last_duel x b c after soon d now differ =
      record {
        plan = d.members.plan;
        hosted = hosted;
        boots = (two.first.core.boot, two.second.core.boot);
        answer = inr (by_asks (asks b) (asks c) refl refl);
      }
    where
      hosted : IsHosted s rank x d.members.plan host
      hosted = hosted_now s accepted rank x host among d.members now

      p : Plan
      p = d.members.plan

      Says : ℕ → ℕ → Type 0
      Says k y = is_some (message_said ((slot_in s rank x p (length p.owners + k)).window y)) ≡ true

      last : (k : ℕ) → k ≤ slots → length p.owners + k < last_slot p
      last k few = (let slots_are = slots_of s accepted rank host f e among slots two.boot two.group two.lossless two.named
          x d.members in omega (arith, slots_are, few))

      -- who says something is one of the two: the host requests nothing by radio
      others : (k : ℕ) → 1 ≤ k → k ≤ slots → (y : ℕ) → Says k y → (y ≡ u) ⊎ (y ≡ v)
      others k first few y some = elim (cases_eq y host) [
        | inl same ↦ absurd (false≢true (sym (host_silent s scenario rank x p host hosted (length p.owners + k) (omega (arith, first)) (last k few))
            ∙ ap (λ (n : ℕ). is_some (message_said ((slot_in s rank x p (length p.owners + k)).window n))) (sym same) ∙ some))
        | inr other ↦ two.alone x p after (omega (arith, soon)) hosted (length p.owners + k) y (omega (arith, first)) (last k few) other some
      ]

      first_says : (k : ℕ) → 1 ≤ k → k ≤ slots → Says k u → spot slots u b ≡ Some k
      first_says =
          says s accepted rank host f e among slots two.boot two.group two.lossless two.named
          u two.first.core.boot two.first.stream two.there.0 two.guests.0 two.lines.0
          x b d.members now after soon d.first hosted d.plan.0 d.plan.1 d.unnamed.0.acks d.unnamed.0.owners

      second_says : (k : ℕ) → 1 ≤ k → k ≤ slots → Says k v → spot slots v c ≡ Some k
      second_says =
          says s accepted rank host f e among slots two.boot two.group two.lossless two.named
          v two.second.core.boot two.second.stream two.there.1 two.guests.1 two.lines.1
          x c d.members now after soon d.second hosted d.plan.0 d.plan.1 d.unnamed.1.acks d.unnamed.1.owners

      spot_of : (w : ℕ) (b : Backoff) → asks b ≡ true → spot slots w b ≡ Some (own_number w b.0 slots)
      spot_of w b is = ap (λ (t : Bool). if t then Some (own_number w b.0 slots) else None) is

      spot_none : (w : ℕ) (b : Backoff) → asks b ≡ false → spot slots w b ≡ None
      spot_none w b is = ap (λ (t : Bool). if t then Some (own_number w b.0 slots) else None) is

      first_alone : asks b ≡ true → IsHeardAlone s rank x p host u
      first_alone first =
          heard_alone s accepted rank host f e among slots two.boot two.group two.lossless two.named
          u two.first.core.boot two.first.stream two.there.0 two.guests.0 two.lines.0
          x b d.members now after soon d.first hosted d.plan.0 d.plan.1 d.unnamed.0.acks d.unnamed.0.owners two.reach.0 first
          (λ y some. elim (others (own_number u b.0 slots) (omega arith) few y some) [
            | inl same ↦ same
            | inr same ↦ absurd (differ (spot_of u b first
                ∙ sym (second_says (own_number u b.0 slots) (omega arith) few (subst (Says (own_number u b.0 slots)) same some))))
          ])
        where
          few : own_number u b.0 slots ≤ slots
          few =
              mine_few s accepted rank host f e among slots two.boot two.group two.lossless two.named
              u two.first.core.boot two.first.stream two.there.0 two.guests.0 two.lines.0
              x b d.members now after soon d.first hosted d.plan.0 d.plan.1 d.unnamed.0.acks d.unnamed.0.owners

      second_alone : asks c ≡ true → IsHeardAlone s rank x p host v
      second_alone second =
          heard_alone s accepted rank host f e among slots two.boot two.group two.lossless two.named
          v two.second.core.boot two.second.stream two.there.1 two.guests.1 two.lines.1
          x c d.members now after soon d.second hosted d.plan.0 d.plan.1 d.unnamed.1.acks d.unnamed.1.owners two.reach.1 second
          (λ y some. elim (others (own_number v c.0 slots) (omega arith) few y some) [
            | inl same ↦ absurd (differ (first_says (own_number v c.0 slots) (omega arith) few (subst (Says (own_number v c.0 slots)) same some)
                ∙ sym (spot_of v c second)))
            | inr same ↦ same
          ])
        where
          few : own_number v c.0 slots ≤ slots
          few =
              mine_few s accepted rank host f e among slots two.boot two.group two.lossless two.named
              v two.second.core.boot two.second.stream two.there.1 two.guests.1 two.lines.1
              x c d.members now after soon d.second hosted d.plan.0 d.plan.1 d.unnamed.1.acks d.unnamed.1.owners

      by_asks : (p q : Bool) → asks b ≡ p → asks c ≡ q → IsHeardAlone s rank x d.members.plan host u ⊎ IsHeardAlone s rank x d.members.plan host v
      by_asks true q first second = inl (first_alone first)
      by_asks false true first second = inr (second_alone second)
      by_asks false false first second = absurd (differ (spot_none u b first ∙ sym (spot_none v c second)))

  -- round after round
  rounds_part : (n x : ℕ) (b c : Backoff) → f ≤ x → x + 4 + 4 * n ≤ e → Duel x b c → spot slots u (turned u b n) ≢ spot slots v (turned v c n)
      → (g : ℕ) × (x ≤ g) × (g ≤ x + 3 + 4 * n) × IsAnswered s rank g host u v
  unfolding turned
  rounds_part zero x b c after soon d differ =
      let range = d.members.range in
      let more : ℕ = d.members.due - x in
      let there = at_round more x b c after d (omega (arith, range)) (omega (arith, range, soon)) in
      let low = there.1 in
      let high = there.2 in
      (there.0, low, omega (arith, high, range), last_duel there.0 b c (omega (arith, after, low)) (omega (arith, high, range, soon)) there.3 there.4 differ)
  rounds_part (suc n) x b c after soon d differ =
      let range = d.members.range in
      let more : ℕ = d.members.due - x in
      let there = at_round more x b c after d (omega (arith, range)) (omega (arith, range, soon)) in
      let low = there.1 in
      let high = there.2 in
      go (rounds_part n) there.0 low (omega (arith, high, range))
      (round_duel there.0 b c (omega (arith, after, low)) (omega (arith, high, range, soon)) there.3 there.4)
    where
      go : ((x : ℕ) (b c : Backoff) → f ≤ x → x + 4 + 4 * n ≤ e → Duel x b c → spot slots u (turned u b n) ≢ spot slots v (turned v c n)
          → (g : ℕ) × (x ≤ g) × (g ≤ x + 3 + 4 * n) × IsAnswered s rank g host u v)
          → (y : ℕ) → x ≤ y → y ≤ x + 3 → IsAnswered s rank y host u v ⊎ Duel (suc y) (turn u b) (turn v c)
          → (g : ℕ) × (x ≤ g) × (g ≤ x + 3 + 4 * suc n) × IsAnswered s rank g host u v
      go smaller y low high (inl answer) = (y, low, omega (arith, high), answer)
      go smaller y low high (inr next) =
          let first : turned u b (suc n) ≡ turned u (turn u b) n = ap (turned u b) (let one : suc n ≡ n + 1 = omega arith in one) ∙ later u b 1 n in
          let second : turned v c (suc n) ≡ turned v (turn v c) n = ap (turned v c) (let one : suc n ≡ n + 1 = omega arith in one) ∙ later v c 1 n in
          let there = smaller (suc y) (turn u b) (turn v c) (omega (arith, after, low)) (omega (arith, soon, high)) next
          (λ same. differ (ap (spot slots u) first ∙ same ∙ ap (spot slots v) (sym second))) in
          let from = there.1 in
          let until = there.2 in
          (there.0, omega (arith, from, low), omega (arith, until, high), there.3)

  -- a member knows its host
  knows_host : (w : ℕ) → has among w ≡ true → w ≢ host → (asks : Asks s f w) → is_host asks.core.streams.host rank two.boot ≡ true
  knows_host w there guest asks =
      let t = two.members.hold w there guest in
      let same : StateOn asks.core ≡ StateOn t.core = sym asks.on ∙ t.on in
      let core : asks.core ≡ t.core = cc in
      let known = subst Knows t.on (knows s f w) rank two.members.due t.tune in
      ap (λ (c : Core). is_host c.streams.host rank two.boot) core
      ∙ ap (λ (r : ℕ). is_host t.core.streams.host r two.boot) (sym (ap (λ (p : Plan). p.rank) t.plan ∙ two.plan.0))
      ∙ ap (λ (n : ℕ). is_host t.core.streams.host t.core.plan.rank n) (sym (ap (λ (p : Plan). p.boot) t.plan ∙ two.plan.1)) ∙ known

  first_duel : Duel f (backoff_of two.first.core.streams) (backoff_of two.second.core.streams)
  first_duel = record {
    members = members;
    plan = two.plan;
    unnamed = two.unnamed;
    boot = (let c = core_at (state_at s f host) (idle (Host rank two.members.due) two.members.plan) members.hosts in
        subst (HasBoot two.boot) (sym c.1) (two.booted c.0 c.1));
    first = subst (Asking two.first.core.boot two.first.stream rank two.boot (backoff_of two.first.core.streams)) (sym two.first.on)
        (record { booted = refl; new = two.first.due; backoff = refl; knows = knows_host u two.there.0 two.guests.0 two.first });
    second = subst (Asking two.second.core.boot two.second.stream rank two.boot (backoff_of two.second.core.streams)) (sym two.second.on)
        (record { booted = refl; new = two.second.due; backoff = refl; knows = knows_host v two.there.1 two.guests.1 two.second });
  }
    where
      members : M f
      members = to_members s accepted rank host f e among two.group f two.members

pub part_on_bus : (slots rounds : ℕ) → PartWithin slots rounds → PartOnTheBus slots rounds
part_on_bus slots rounds within s accepted rank host f among u v two =
    let x = two.first.core.streams in
    let y = two.second.core.streams in
    let first = new_due x two.first.stream two.first.due in
    let second = new_due y two.second.stream two.second.due in
    let one = subst (Ruled u) two.first.on (ruled s f u) in
    let other = subst (Ruled v) two.second.on (ruled s f v) in
    let parts = within u v x y two.differ (record { due = first; tries = one.tries; skips = one.skips })
    (record { due = second; tries = other.tries; skips = other.skips }) in
    let few = parts.1 in
    let differ : spot slots u (turned u (backoff_of x) parts.0) ≢ spot slots v (turned v (backoff_of y) parts.0) =
    λ same. parts.2 (spot_by slots u x first parts.0 ∙ same ∙ sym (spot_by slots v y second parts.0)) in
    let found = rounds_part s accepted rank host f (f + 4 * rounds) among u v slots two parts.0 f (backoff_of x) (backoff_of y) (omega arith)
    (omega (arith, few)) (first_duel s accepted rank host f (f + 4 * rounds) among u v slots two) differ in
    let until = found.2 in
    (found.0, found.1, omega (arith, until, few), found.3)
