-- What comes early by its mark brings the packet of x out of time, and nothing else.
use Rattle.std.proofs.Common.{◌≡◌, ℕ, ◌-◌, ◌<◌, ◌≤◌, List, length, get_or, true, false, not, ◌&&◌, ◌||◌, ◌==◌}
use Rattle.std.proofs.Common.{nat_lt, Some, None, sym, ◌∙◌, ap, arith, inl, inr, ◌⊎◌, Contains}
use Rattle.std.proofs.lemmas.Bool.Decides.{nat_tests}
use Rattle.std.proofs.lemmas.Bool.{and_parts, and_from, or_cases, eqb-true, eq-eqb, ltb-true}
use Rattle.std.proofs.lemmas.Bool.{cond-true, false_from_ne_true}
use Rattle.std.specs.List.{list_any}
use Rattle.std.proofs.lemmas.List.{get_or_default}
use Rattle.lwb_base.specs.Profile.{Numbers}
use Rattle.link_trace.specs.Masks.{IsMaskAmong}
use Rattle.link_trace.specs.Passes.{Lines}
use Rattle.link_trace.proofs.MaskBits.{none_among, same_among}
use Rattle.radio_model.specs.Hearing.{Meets}
use Rattle.radio_model.specs.Stations.{on_air, overlaps}
use Rattle.radio_model.specs.Marks.{IsMark, IsAlike, IsNewest, is_aside, comes_early}
use Rattle.radio_model.specs.Meetings.{IsInOneFrame, key_of, comes_in_time, reaches, differs, spoils, passes_at, rival_to, rivals_in, IsCrowd}
use Rattle.radio_model.specs.declared.mark.Mark.{Mark}
use Rattle.radio_model.specs.declared.mark.Origin.{Origin}
use Rattle.radio_model.specs.declared.rivals.Key.{Key}
use Rattle.radio_model.specs.declared.rivals.Rival.{Rival}
use Rattle.radio_model.specs.declared.sending.Sending.{Sending}
use Rattle.radio_model.specs.declared.station.Station.{Station}
use Rattle.radio_model.proofs.Alike.{all_same, newest_rival, one_key, origin_from}
use Rattle.lwb_base.proofs.Elements.{some_of, any_of, in_filter}
use Rattle.lwb_base.proofs.Truths.{same_truth}
use Rattle.radio_model.proofs.RivalFacts.{rival, meets_from, same_from, before_true}

module _ (p : Numbers) (x : Sending) (st : Station) (mk : Mark) (origin : Origin) (opens : ℕ) (is : IsMark (on_air st) mk) (alike : IsAlike
    (on_air st) st.node mk origin x) (starts : IsInOneFrame p.frame x.start opens)
    (apart : is_aside x.start x.end mk ≡ false) (so : comes_early opens x origin st.node mk ≡ true) where
  record Told : Type 0 where
    before : mk.before ≤ x.start
    origin_is : mk.origin ≡ origin
    rank_is : mk.rank ≡ x.rank
    opened : opens ≤ mk.start
    first : (nat_lt mk.start x.start || ((mk.start == x.start) && nat_lt st.node x.node)) ≡ true

  told : Told
  told = let is = so in record {
    before = grind (arith, nat_tests);
    origin_is = origin_from mk.origin origin (grind (arith, nat_tests));
    rank_is = grind (arith, nat_tests);
    opened = grind (arith, nat_tests);
    first = grind (arith, nat_tests);
  }

  runs : x.start < mk.end
  runs = let aside = apart in grind (arith, nat_tests)

  begins : mk.start < x.end
  begins = let aside = apart in let before = told.before in grind (arith, nat_tests)

  -- it comes before x
  is_first : (mk.start < x.start) ⊎ ((mk.start ≡ x.start) × (st.node < x.node))
  is_first = elim (or_cases (nat_lt mk.start x.start) ((mk.start == x.start) && nat_lt st.node x.node) told.first) [
    | inl less ↦ inl (ltb-true mk.start x.start less)
    | inr both ↦ let two = and_parts (mk.start == x.start) (nat_lt st.node x.node) both in inr (eqb-true mk.start x.start two.0, ltb-true st.node x.node two.1)
  ]

  not_after : mk.start ≤ x.start
  not_after = elim is_first [ inl less ↦ omega (arith, less) | inr at ↦ omega (arith, at.0) ]

  -- what is known of the newest
  record Same (y : Sending) : Type 0 where
    node_is : y.node ≡ st.node
    rank_is : y.rank ≡ x.rank
    meets : Meets x y
    packet_is : y.packet ≡ x.packet
    key_is : key_of p y ≡ key_of p x
    late : comes_in_time p x y ≡ false

  same_as : (y : Sending) → IsNewest (on_air st) y → Same y
  same_as y newest =
      let at = newest.there in
      let start : y.start ≡ mk.start = ap (λ (z : Sending). z.start) (sym at) ∙ is.start newest.place y newest.last in
      let end : y.end ≡ mk.end = ap (λ (z : Sending). z.end) (sym at) ∙ is.end newest.place y newest.last in
      let rank : y.rank ≡ x.rank = ap (λ (z : Sending). z.rank) (sym at) ∙ is.rank newest.place y newest.last ∙ told.rank_is in
      let met : Meets x y = record { before = omega (arith, runs, end); after = omega (arith, begins, start) } in
      let own = alike y newest in
      let packet : y.packet ≡ x.packet = own.1 told.origin_is met in
      let frame = starts y.start (omega (arith, told.opened, start)) (omega (arith, not_after, start)) in
      record {
        node_is = own.0;
        rank_is = rank;
        meets = met;
        packet_is = packet;
        key_is = one_key p x y frame packet;
        late = false_from_ne_true (comes_in_time p x y) (λ timely.
            let by = (before_true p x y timely).0 in
            elim is_first [
              | inl less ↦ omega (arith, less, by.start, start)
              | inr both ↦ omega (arith, both.1, by.node (sym (start ∙ both.0)), own.0)
            ]);
      }

  record Known (r : Rival) : Type 0 where
    same_is : r.same ≡ true
    late : r.in_time ≡ false
    key_is : r.key ≡ key_of p x
    node_is : r.node ≡ st.node

  known : (r : Rival) → Contains (rivals_in p x st) r → Known r
  known r there =
      let c = newest_rival p x st mk is told.before r there in
      let s = same_as c.sending c.newest in
      record {
        same_is = ap (λ (w : Rival). w.same) (sym c.is) ∙ same_from c.sending x s.packet_is;
        late = ap (λ (w : Rival). w.in_time) (sym c.is) ∙ s.late;
        key_is = ap (λ (w : Rival). w.key) (sym c.is) ∙ s.key_is;
        node_is = ap (λ (w : Rival). w.node) (sym c.is);
      }

  newest_one : (y : Sending) × IsNewest (on_air st) y
  newest_one =
      let ys = on_air st in
      let some : 0 < length ys = is.some (let later = runs in omega arith) in
      let k : ℕ = length ys - 1 in
      (get_or ys k x, record { place = k; last = omega arith; there = get_or_default ys k (get_or ys k x) x (omega arith) })

  one_there : Contains (rivals_in p x st) (rival p x st newest_one.0)
  one_there =
      let y = newest_one.0 in
      let s = same_as y newest_one.1 in
      let last = newest_one.1.last in
      in_filter (rival_to p x st) (on_air st) y (rival p x st y) (newest_one.1.place, omega (arith, last), newest_one.1.there)
      (cond-true ((y.rank == x.rank) && overlaps x y) (Some (rival p x st y)) None (and_from (y.rank == x.rank) (overlaps x y)
      (eq-eqb y.rank x.rank s.rank_is) (meets_from x y s.meets)))

  at_key : (lines : Lines) (v : ℕ) (r : Rival) → Known r → reaches lines v r ≡ passes_at lines (key_of p x) st.node v
  at_key lines v r k = ap (λ (q : Key). passes_at lines q r.node v) k.key_is ∙ ap (λ (n : ℕ). passes_at lines (key_of p x) n v) k.node_is

  reaching : (lines : Lines) (v : ℕ) → passes_at lines (key_of p x) st.node v ≡ list_any (spoils lines v) (rivals_in p x st)
  reaching lines v =
      same_truth (passes_at lines (key_of p x) st.node v) (list_any (spoils lines v) (rivals_in p x st))
      (λ passes.
      let r = rival p x st newest_one.0 in
      let k = known r one_there in
      any_of (spoils lines v) (rivals_in p x st) r one_there
      (and_from (reaches lines v r && r.same) (not r.in_time) (and_from (reaches lines v r) r.same (at_key lines v r k ∙ passes) k.same_is) (ap not k.late)))
      (λ some.
      let r = some_of (spoils lines v) (rivals_in p x st) some in
      let parts = and_parts (reaches lines v r.0 && r.0.same) (not r.0.in_time) r.2 in
      let two = and_parts (reaches lines v r.0) r.0.same parts.0 in
      sym (at_key lines v r.0 (known r.0 r.1)) ∙ two.0)

  pub early_comes : (lines : Lines) (nodes : List ℕ) (among reach : ℕ) → IsMaskAmong (λ v. passes_at lines (key_of p x) st.node v) nodes among reach
      → IsCrowd lines nodes among (rivals_in p x st) (record { mixed = 0; spoiled = reach })
  early_comes lines nodes among reach reach_is = record {
    mixed = same_among nodes (λ v. false) (λ v. list_any (differs lines v) (rivals_in p x st)) among 0
        (λ v. sym (all_same lines v (rivals_in p x st) (λ r there. (known r there).same_is))) (none_among nodes among);
    spoiled = same_among nodes (λ v. passes_at lines (key_of p x) st.node v) (λ v. list_any (spoils lines v) (rivals_in p x st)) among reach
        (reaching lines) reach_is;
  }
