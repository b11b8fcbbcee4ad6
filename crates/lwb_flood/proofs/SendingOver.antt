-- A transmission ends: what runs then, what the medium holds, and who receives it.
use Rattle.std.proofs.Common.{◌≡◌, ◌≢◌, ℕ, ◌+◌, ◌^◌, ◌≤◌, ◌⊎◌, ◌↔◌, List, [], ◌∷◌, map, Some, Bool, true, false, inl, inr, refl, sym, ◌∙◌, ap}
use Rattle.std.proofs.Common.{subst, arith, length}
use Rattle.std.specs.Prelude.{Contains}
use Rattle.std.specs.Option.{IfSome}
use Rattle.std.proofs.lemmas.Bool.{cases_eq}
use Rattle.std.proofs.lemmas.List.Elements.{All-contains}
use Rattle.std.proofs.lemmas.Option.{same_Some}
use Rattle.lwb_base.specs.Profile.{Numbers, airtime}
use Rattle.scenario_text.specs.FloodParts.{FloodParts}
use Rattle.radio_model.specs.declared.sending.Sending.{Sending}
use Rattle.radio_model.specs.OnAir.{Hearing}
use Rattle.radio_model.specs.Hearing.{HearsInScene}
use Rattle.radio_model.specs.Stations.{IsMedium, IsTime, Ends, nodes_of, station_of, sending_of_station as sending_by_station}
use Rattle.radio_model.specs.Holding.{Holds, Agree, as_it_stands}
use Rattle.radio_model.proofs.Agreement.{agree_on, agree_earlier}
use Rattle.radio_model.proofs.NothingBefore.{by_waiting, by_ending}
use Rattle.radio_model.proofs.AfterEnding.{holds_after_ending}
use Rattle.radio_model.proofs.Settled.{settled}
use Rattle.air_log.specs.Entries.{sendings_of}
use Rattle.lwb_base.proofs.Elements.{not_in_none, map_contains, map_from, Distinct}
use Rattle.lwb_flood.specs.declared.member.Act.{Act}
use Rattle.lwb_flood.specs.declared.member.Act.TheVariants.{Sends}
use Rattle.lwb_flood.specs.declared.member.Member.{Member}
use Rattle.lwb_flood.specs.FloodLog.{HasClocks}
use Rattle.lwb_flood.specs.FloodWorlds.{World, moment_of, NotAfter, ActsNext, after_own, own_ended}
use Rattle.lwb_flood.proofs.ActsTold.{same_sends, sends_by, listens_differ}
use Rattle.lwb_flood.proofs.FloodSoFar.{scene, standing, sending_by, IsSending, Stands, IsMember, Runs, IsSettled, IsSent, IsDue, IsFloodSoFar}
use Rattle.scenario_text.proofs.Known.{known_there}
use Rattle.lwb_flood.proofs.LogEntries.{known_of}
use Rattle.lwb_flood.proofs.NodesAndStations.{one_member, member_of, old_lasts}
use Rattle.lwb_flood.proofs.WorldLists.{each_changed, same_there}

-- receptions of one transmission
abbrev pub heard_at : Sending → ℕ → Hearing
heard_at x v = record { node = v; sending = x }

heard_from : (x y : Sending) (vs : List ℕ) (v : ℕ) → Contains (map (heard_at x) vs) (heard_at y v) → (x ≡ y) × Contains vs v
heard_from x y vs v there =
    let u = map_from (heard_at x) vs (heard_at y v) there in (
      ap (λ (h : Hearing). h.sending) u.2,
      subst (λ (k : ℕ). Contains vs k) (ap (λ (h : Hearing). h.node) u.2) u.1,
    )

pub heard_distinct : (x : Sending) (vs : List ℕ) → Distinct vs → Distinct (map (heard_at x) vs)
heard_distinct x [] all = tt
heard_distinct x (v ∷ vs) all = (λ there. all.0 (heard_from x x vs v there).1, heard_distinct x vs all.1)

module _ (f : FloodParts) (clocks : ℕ → ℕ → ℕ) (has : HasClocks f clocks) (w : World) (medium : IsMedium w.medium) (so : IsFloodSoFar f clocks [] [] w)
    (m : Member) (there : Contains w.members m) (x : Sending) (act : m.act ≡ Sends x) (next : ActsNext w.members m) where
  abbrev behind : World
  behind = own_ended x w

  pub is : IsMember f clocks [] w m
  is = so.each m there

  pub sends : IsSending w m x
  sends = subst (λ (a : Act). Stands f clocks w [] is.past m a) act is.stands

  pub is_it : (n : Member) → Contains w.members n → n.node ≡ x.node → n ≡ m
  is_it n in_it node = one_member f clocks has [] [] w medium so n m in_it there (node ∙ ap (λ (y : Sending). y.node) sends.own)

  lasts : x.end ≡ x.start + 32768
  lasts = old_lasts f clocks has [] [] w medium so x sends.sent

  -- what others do next comes no earlier
  pub not_before : (n : Member) → Contains w.members n → IfSome (moment_of n.act) (λ l. NotAfter (x.end, false) l)
  not_before n in_it =
      let moment : next.moment ≡ (x.end, false) = same_Some next.moment (x.end, false) (sym next.own ∙ ap moment_of act) in
      subst (λ (k : ℕ × Bool). IfSome (moment_of n.act) (λ l. NotAfter k l)) moment
      (All-contains (λ (n : Member). IfSome (moment_of n.act) (λ l. NotAfter next.moment l)) w.members n next.first in_it)

  pub no_later : (u : ℕ) (b : Bool) → NotAfter (x.end, false) (u, b) → x.end ≤ u
  no_later u b (inl less) = omega (arith, less)
  no_later u b (inr same) = omega (arith, same.0)

  pub ends_later : (n : Member) (y : Sending) → Contains w.members n → n.act ≡ Sends y → x.end ≤ y.end
  ends_later n y in_it about = no_later y.end false (subst (λ (a : Act). IfSome (moment_of a) (λ l. NotAfter (x.end, false) l)) about (not_before n in_it))

  small : x.end ≤ 2 ^ 46
  small = let s = (so.sent x sends.sent).step in let near = s.near.below in let few = s.small in omega (arith, near, few, lasts)

  pub own_node : x.node ≡ m.node
  own_node = ap (λ (y : Sending). y.node) sends.own

  pub own_waits : m.flood.waiting ≡ true
  own_waits = sends.waits

  pub found : station_of w.medium x.node ≡ Some is.station
  found = ap (station_of w.medium) own_node ∙ is.found

  pub own_runs : sending_by_station (station_of w.medium x.node) ≡ Some x
  own_runs = ap sending_by_station found ∙ is.sends ∙ ap sending_by act

  pub ended_time : IsTime w.medium x.end
  ended_time = record {
    later = sends.later;
    small = small;
    running = λ st y in_it is.
        let n = member_of f clocks has [] [] w medium so st in_it in
        ends_later n.0 y n.1 (sends_by n.0.act y (sym n.3 ∙ is));
  }

  pub own_ends : Ends w.medium x.node x.end
  own_ends = record {
    sending = x;
    runs = own_runs;
    until = refl;
    lasts = ap (λ (y : Sending). y.end) sends.own ∙ ap (λ (p : Numbers). x.start + airtime p (length x.packet)) (sym so.numbers);
  }

  -- what runs
  pub ran : (y : Sending) → Runs behind y → Runs w y × (y ≢ x)
  ran y runs = by_member runs.member runs.there runs.act
    where
      by_member : (n : Member) → Contains behind.members n → n.act ≡ Sends y → Runs w y × (y ≢ x)
      by_member = each_changed x.node after_own w.members (λ n. n.act ≡ Sends y → Runs w y × (y ≢ x))
          (λ n in_it node about. absurd (listens_differ y about))
          (λ n in_it other about. (
            record { member = n; there = in_it; act = about },
            λ same.
                let stands : IsSending w n y = subst (λ (a : Act). Stands f clocks w [] (so.each n in_it).past n a) about (so.each n in_it).stands in
                other (sym (ap (λ (z : Sending). z.node) stands.own) ∙ ap (λ (z : Sending). z.node) same),
          ))

  runs_still : (y : Sending) → Runs w y → Runs behind y ⊎ (x ≡ y)
  runs_still y runs =
      elim (cases_eq runs.member.node x.node) [
        | inl node ↦ inr (same_sends x y (sym act ∙ ap (λ (k : Member). k.act) (sym (is_it runs.member runs.there node)) ∙ runs.act))
        | inr other ↦ inl (record { member = runs.member; there = same_there x.node after_own w.members runs.member runs.there other; act = runs.act })
      ]

  x_ran : Runs w x
  x_ran = record { member = m; there = there; act = act }

  begun_before : (y : Sending) → Contains (sendings_of w.air) y → y.start ≤ x.end
  begun_before y in_it = let early = sends.begun y in_it in omega (arith, early)

  -- the medium's call
  pub holds : Holds behind.medium (scene f behind)
  holds = holds_after_ending w.medium medium (scene f w) so.holds x.node x.end sends.later own_ends

  ends_same : Agree x.end (as_it_stands w.medium x.end (scene f w)) (standing f behind)
  ends_same = by_ending w.medium x.node x.end (scene f w)

  agree : Agree w.medium.now (standing f w) (standing f behind)
  agree =
      agree_on w.medium.now (standing f w) (as_it_stands w.medium x.end (scene f w)) (standing f behind)
      (by_waiting w.medium w.medium.now x.end (scene f w) sends.later)
      (agree_earlier w.medium.now x.end (as_it_stands w.medium x.end (scene f w)) (standing f behind) sends.later ends_same)

  -- those that receive it
  module _ (vs : List ℕ) (distinct : Distinct vs)
      (hear : (v : ℕ) → Contains vs v ↔ (Contains (nodes_of w.medium) v × HearsInScene (as_it_stands w.medium x.end (scene f w)) v x)) where
    abbrev todo : List Hearing
    todo = map (heard_at x) vs

    settled_still : (y : Sending) → Contains (sendings_of w.air) y → IsSettled f [] w y → IsSettled f todo behind y
    settled_still y in_it s = record {
      ended = (let ended = s.ended in let later = sends.later in omega (arith, ended, later));
      over = λ runs. s.over (ran y runs).0;
      heard = λ v.
          let short = old_lasts f clocks has [] [] w medium so y in_it in
          let same = settled (standing f w) (standing f behind) v y (omega (arith, short))
          (agree_earlier y.end w.medium.now (standing f w) (standing f behind) s.ended agree) in (
            λ either. let r = (s.heard v).0
                (elim either [ inl h ↦ inl h | inr now ↦ absurd (s.over (subst (λ (z : Sending). Runs w z) (heard_from x y vs v now).0 x_ran)) ]) in
                (r.0, same.0 r.1),
            λ hears. elim ((s.heard v).1 (hears.0, same.1 hears.1)) [ inl h ↦ inl h | inr none ↦ absurd (not_in_none (heard_at y v) none) ],
          );
    }

    settled_now : IsSettled f todo behind x
    settled_now = record {
      ended = omega arith;
      over = λ runs. (ran x runs).1 refl;
      heard = λ v.
          let same = settled (as_it_stands w.medium x.end (scene f w)) (standing f behind) v x (omega (arith, lasts)) ends_same in (
            λ either. elim either [
              | inl h ↦ absurd ((so.heard v x h).over x_ran)
              | inr now ↦ let r = (hear v).0 (heard_from x x vs v now).1 in
                  (known_of f.nodes v (subst (λ (l : List ℕ). Contains l v) so.stations r.0), same.0 r.1)
            ],
            λ hears. inr (map_contains (heard_at x) vs v
                ((hear v).1 (subst (λ (l : List ℕ). Contains l v) (sym so.stations) (known_there f.nodes v hears.0), same.1 hears.1))),
          );
    }

    pub each_sent : (y : Sending) → Contains (sendings_of w.air) y → IsSent f clocks todo behind y
    each_sent y in_it =
        let s = so.sent y in_it in
        record {
          known = s.known;
          lasts = s.lasts;
          begun = begun_before y in_it;
          step = s.step;
          cause = s.cause;
          fate = elim s.fate [
            | inl runs ↦ elim (runs_still y runs) [ inl still ↦ inl still | inr now ↦ inr (subst (λ (z : Sending). IsSettled f todo behind z) now settled_now) ]
            | inr over ↦ inr (settled_still y in_it over)
          ];
        }

    pub each_due : (h : Hearing) → Contains todo h → IsDue behind h
    each_due h in_it =
        let sending : x ≡ h.sending = (heard_from x h.sending vs h.node in_it).0 in
        subst (λ (g : Hearing). IsDue behind g) (ap (heard_at_node h.node) sending) (record {
          sent = sends.sent;
          now = refl;
          begun = sends.begun;
          new = λ there. (so.heard h.node x there).over x_ran;
        })
      where
        heard_at_node : ℕ → Sending → Hearing
        heard_at_node v y = heard_at y v
