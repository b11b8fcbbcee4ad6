-- Who receives: nodes that x reaches, that are ready for it, and to which its packet does not come out of time.
use Rattle.std.proofs.Common.{◌≡◌, ℕ, ◌<◌, ◌≤◌, ◌-◌, min, inl, inr, List, [], length, get_or, Bool, true, false, not, ◌&&◌, ◌||◌, ◌==◌, filter_map, All}
use Rattle.std.proofs.Common.{sym, ◌∙◌, ap, arith}
use Rattle.std.proofs.lemmas.Bool.Decides.{nat_tests}
use Rattle.std.proofs.lemmas.Bool.{cond-false}
use Rattle.std.proofs.lemmas.Nat.Bits.{bit_at-lt}
use Rattle.std.specs.Int.{bit_at}
use Rattle.std.specs.List.{list_any}
use Rattle.lwb_base.specs.declared.limits.TheConstants.{MOST_NODES}
use Rattle.link_trace.specs.Masks.{IsMaskAmong}
use Rattle.link_trace.specs.Passes.{Lines, captured}
use Rattle.radio_model.specs.Stations.{fresh, on_air, overlaps, covers}
use Rattle.radio_model.specs.Meetings.{differs, reception_pair, is_chosen, is_heard, is_ready, passes_at, spoils, AreThose, IsFrom, IsPlaceOf, HasBitsOf}
use Rattle.radio_model.specs.declared.crowd.Crowd.{Crowd}
use Rattle.radio_model.specs.declared.rivals.Key.{Key}
use Rattle.radio_model.specs.declared.rivals.Rival.{Rival}
use Rattle.radio_model.specs.declared.sending.Sending.{Sending}
use Rattle.radio_model.specs.declared.station.Station.{Station}
use Rattle.radio_model.proofs.EndedSendings.{none_kept}
use Rattle.link_trace.proofs.MaskBits.{set_among, unset_among}
use Rattle.radio_model.proofs.HeardInTurn.{of_node, left_bits, left_one, left_none}
use Rattle.radio_model.proofs.RestOfPlaces.{InOrder, bit_cases}

unreached : (r s c o e : Bool) → r ≡ false → (r && not s && c && not o && e) ≡ false
unreached r s c o e is = grind (arith, nat_tests)

spoiled : (r s c o e : Bool) → s ≡ true → (r && not s && c && not o && e) ≡ false
spoiled r s c o e is = grind (arith, nat_tests)

unready : (r s c o e : Bool) → (c && not o) ≡ false → (r && not s && c && not o && e) ≡ false
unready r s c o e is = grind (arith, nat_tests)

busy : (c o : Bool) → o ≡ true → (c && not o) ≡ false
busy c o is = grind (arith, nat_tests)

taken : (r s c o e : Bool) → r ≡ true → s ≡ false → (c && not o) ≡ true → e ≡ (r && not s && c && not o && e)
taken r s c o e reached clean is = grind (arith, nat_tests)

bit_says : (n : ℕ) (b : Bool) → n < 2 → (n ≡ 0 → b ≡ false) → (n ≡ 1 → b ≡ true) → (n == 1) ≡ b
bit_says n b small none one = elim (bit_cases n small) [
  | inl is ↦ ap (λ (m : ℕ). m == 1) is ∙ sym (none is)
  | inr is ↦ ap (λ (m : ℕ). m == 1) is ∙ sym (one is)
]

-- these nodes are ready for x, which node u sends: those of the stations that x reaches, of those that are not busy, that are not
-- lost, and that pass the test
pub record AreReady (lines : Lines) (nodes : List ℕ) (u : ℕ) (x : Sending) (key : Key) (rs : List Rival) (sts : List Station) (ready : ℕ) : Type 0 where
  pub few : length sts ≤ MOST_NODES
  pub size : length nodes ≡ length sts
  pub placed : All (λ (st : Station). IsPlaceOf nodes st.place st.node) sts
  pub in_order : InOrder sts
  pub idle : ℕ
  pub reached : ℕ
  pub lost : ℕ
  pub left : ℕ
  pub busy_else : (k : ℕ) (d : Station) → k < length sts → bit_at idle k ≡ 0 → list_any (overlaps x) (on_air (get_or sts k d)) ≡ true
  pub reach : IsMaskAmong (λ v. passes_at lines key u v) nodes idle reached
  pub lost_is : (i : ℕ) → bit_at lost i ≡ 1 → list_any (spoils lines (get_or nodes i 0)) rs ≡ true
  pub left_is : (i : ℕ) → bit_at left i ≡ min (bit_at reached i) (1 - bit_at lost i)
  pub those : (d : Station) → AreThose (λ k. is_ready x (get_or sts k d)) left ready

module _ {lines : Lines} {nodes : List ℕ} {u : ℕ} {x : Sending} {key : Key} {rs : List Rival} {sts : List Station} {ready : ℕ}
    (q : AreReady lines nodes u x key rs sts ready) where
  -- a node that is ready is one of the stations
  pub ready_below : (i : ℕ) → bit_at ready i ≡ 1 → i < length sts
  ready_below i one =
      omega (
        arith,
        q.size,
        of_node nodes (λ v. passes_at lines key u v) q.idle q.reached i q.reach
            (left_bits q.reached q.lost q.left i q.left_is ((q.those (fresh 0 0)).among i one)).0,
      )

  -- the node of a station is that of its place
  node_at : (k : ℕ) (d : Station) → k < length sts → (get_or nodes k 0 ≡ (get_or sts k d).node) × (k < length nodes)
  node_at k d below =
      let at = q.placed k d below in
      let place = q.in_order k d below in
      (ap (λ (n : ℕ). get_or nodes n 0) (sym place) ∙ at.there, omega (arith, at.below, place))

  pub not_where_spoiled : (k : ℕ) (d : Station) → k < length sts → list_any (spoils lines (get_or nodes k 0)) rs ≡ true
      → is_heard lines u x key rs (get_or sts k d) ≡ false
  not_where_spoiled k d below is =
      spoiled (passes_at lines key u (get_or sts k d).node) (list_any (spoils lines (get_or sts k d).node) rs) _ _ _
      (ap (λ (v : ℕ). list_any (spoils lines v) rs) (sym (node_at k d below).0) ∙ is)

  pub not_where_unready : (k : ℕ) (d : Station) → k < length sts → bit_at ready k ≡ 0 → is_heard lines u x key rs (get_or sts k d) ≡ false
  not_where_unready k d below none = elim (bit_cases (bit_at q.left k) (bit_at-lt q.left k)) [
    | inr one ↦ unready (passes_at lines key u (get_or sts k d).node) (list_any (spoils lines (get_or sts k d).node) rs) _ _ _ ((q.those d).others k one none)
    | inl gone ↦ elim (bit_cases (bit_at q.reached k) (bit_at-lt q.reached k)) [
      | inl out ↦ elim (bit_cases (bit_at q.idle k) (bit_at-lt q.idle k)) [
        | inl not_asked ↦
            unready (passes_at lines key u (get_or sts k d).node) (list_any (spoils lines (get_or sts k d).node) rs) _ _ _
            (busy (covers (get_or sts k d) x.rank x.start x.end) (list_any (overlaps x) (on_air (get_or sts k d))) (q.busy_else k d below not_asked))
        | inr asked ↦
            unreached (passes_at lines key u (get_or sts k d).node) _ _ _ _
            (ap (λ (v : ℕ). passes_at lines key u v) (sym (node_at k d below).0)
            ∙ unset_among nodes (λ v. passes_at lines key u v) q.idle q.reached q.reach k (node_at k d below).1 asked out)
      ]
      | inr in_reach ↦
          not_where_spoiled k d below (q.lost_is k (left_none (bit_at q.reached k) (bit_at q.lost k) (bit_at-lt q.reached k) (bit_at-lt q.lost k)
          (sym (q.left_is k) ∙ gone) in_reach))
    ]
  ]

  pub reached_where_ready : (k : ℕ) (d : Station) → k < length sts → bit_at ready k ≡ 1 → passes_at lines key u (get_or sts k d).node ≡ true
  reached_where_ready k d below one =
      let both = left_one (bit_at q.reached k) (bit_at q.lost k) (bit_at-lt q.reached k) (bit_at-lt q.lost k)
      (sym (q.left_is k) ∙ (q.those d).among k one) in
      ap (λ (v : ℕ). passes_at lines key u v) (sym (node_at k d below).0) ∙ set_among nodes (λ v. passes_at lines key u v) q.idle q.reached q.reach k both.0

  -- what the test of another packet leaves
  pub taken_is_heard : (k : ℕ) (d : Station) (c : Crowd) → k < length sts → bit_at ready k ≡ 1 → bit_at c.spoiled k ≡ 0 → IsFrom lines nodes rs c
      → HasBitsOf lines nodes rs k c
      → (not (bit_at c.mixed k == 1)
      || is_chosen lines (get_or sts k d).node rs (captured lines key.frame key.slot key.counter (get_or sts k d).node))
      ≡ is_heard lines u x key rs (get_or sts k d)
  taken_is_heard k d c below one clean from tells =
      let st = get_or sts k d in
      let node = (node_at k d below).0 in
      let named = is_chosen lines st.node rs (captured lines key.frame key.slot key.counter st.node) in
      let mixed : (bit_at c.mixed k == 1) ≡ list_any (differs lines st.node) rs =
      bit_says (bit_at c.mixed k) (list_any (differs lines (get_or nodes k 0)) rs) (bit_at-lt c.mixed k) (tells.mixed clean) (from.mixed k)
      ∙ ap (λ (v : ℕ). list_any (differs lines v) rs) node in
      ap (λ (b : Bool). not b || named) mixed
      ∙ taken (passes_at lines key u st.node) (list_any (spoils lines st.node) rs) _ _ (not (list_any (differs lines st.node) rs) || named)
      (reached_where_ready k d below one) (ap (λ (v : ℕ). list_any (spoils lines v) rs) (sym node) ∙ tells.spoiled clean) ((q.those d).so k one)

  pub not_where_left_out : (k : ℕ) (d : Station) (c : Crowd) (rest : ℕ) → k < length sts → IsFrom lines nodes rs c
      → ((i : ℕ) → bit_at rest i ≡ min (bit_at ready i) (1 - bit_at c.spoiled i)) → bit_at rest k ≡ 0
      → is_heard lines u x key rs (get_or sts k d) ≡ false
  not_where_left_out k d c rest below from bits none = elim (bit_cases (bit_at ready k) (bit_at-lt ready k)) [
    | inl out ↦ not_where_unready k d below out
    | inr one ↦
        not_where_spoiled k d below (from.spoiled k (left_none (bit_at ready k) (bit_at c.spoiled k) (bit_at-lt ready k) (bit_at-lt c.spoiled k)
        (sym (bits k) ∙ none) one))
  ]

  pub nobody_hears : ((i : ℕ) → bit_at ready i ≡ 1 → list_any (spoils lines (get_or nodes i 0)) rs ≡ true)
      → [] ≡ filter_map (reception_pair lines u x key rs) sts
  nobody_hears all_spoiled =
      sym (none_kept (reception_pair lines u x key rs) sts (λ k d below.
      cond-false (is_heard lines u x key rs (get_or sts k d)) _ _ (elim (bit_cases (bit_at ready k) (bit_at-lt ready k)) [
        | inl out ↦ not_where_unready k d below out
        | inr one ↦ not_where_spoiled k d below (all_spoiled k one)
      ])))
