-- Whom the medium names receives, and who receives it names.
use Rattle.std.proofs.Common.{◌≡◌, ℕ, ◌+◌, ◌*◌, ◌/◌, ◌<◌, ◌≤◌, ◌↔◌, ◌⊎◌, inl, inr, List, length, Bool, true, false, not, ◌&&◌, ◌||◌}
use Rattle.std.proofs.Common.{◌==◌, if◌then◌else◌, Option, Some, None, refl, sym, ◌∙◌, ap, subst, arith, eq-eqb, Contains}
use Rattle.std.proofs.lemmas.Bool.{and_parts, and_from, or_cases, or_left, or_right, eqb-true, cases_Bool, both_ways, not-true, not_from_false}
use Rattle.std.proofs.lemmas.Bool.{false_from_ne_true, false≢true}
use Rattle.std.proofs.Math.Nat.{mul-le-mul_right}
use Rattle.std.specs.List.{list_any}
use Rattle.lwb_base.specs.Profile.{Numbers, IsProfile}
use Rattle.link_trace.specs.Passes.{Lines, passes, captured}
use Rattle.radio_model.specs.OnAir.{Sending}
use Rattle.radio_model.specs.Hearing.{Scene, HearsInScene, Rival as RivalIn, Arrives, Meets, Before, slot_of_sending, counter_of_sending}
use Rattle.radio_model.specs.Stations.{MediumState, IsMedium, id_of_station, nodes_of, on_air, overlaps, covers}
use Rattle.radio_model.specs.Meetings.{key_of, rivals_to, reaches, spoils, differs, comes_from, is_chosen, is_heard, reception_pair, hearers_to, passes_at}
use Rattle.radio_model.specs.Holding.{Holds, IsKept, IsOwn, as_it_stands, longest}
use Rattle.radio_model.specs.declared.rivals.Key.{Key}
use Rattle.radio_model.specs.declared.rivals.Rival.{Rival}
use Rattle.radio_model.specs.declared.station.Station.{Station}
use Rattle.lwb_base.proofs.Elements.{map_contains, map_from, in_filter, filter_from, any_of, some_of}
use Rattle.radio_model.proofs.Places.{one_station}
use Rattle.radio_model.proofs.RivalFacts.{meets_true, meets_from, same_true, same_from, before_true, before_from, rival, in_rivals, from_rivals, Comes}

pub byte_is : (p : Numbers) → IsProfile p → p.byte ≡ 2048
byte_is p (inl is) = ap (λ (q : Numbers). q.byte) is
byte_is p (inr is) = ap (λ (q : Numbers). q.byte) is.0

pub not_long : (p : Numbers) (v : ℕ) (y : Sending) → IsOwn p v y → y.end ≤ y.start + longest p
not_long p v y own =
    let lasts = own.lasts in
    let long = own.long in
    let most : (length y.packet + 8) * p.byte ≤ (125 + 8) * p.byte = mul-le-mul_right p.byte (omega arith) in
    omega arith

pub lasts_some : (p : Numbers) (v : ℕ) (y : Sending) → IsProfile p → IsOwn p v y → y.start < y.end
lasts_some p v y profile own =
    let lasts = own.lasts in
    let byte = byte_is p profile in
    let least : 8 * p.byte ≤ (length y.packet + 8) * p.byte = mul-le-mul_right p.byte (omega arith) in
    omega arith

none_any : {X : Type 0} (test : X → Bool) (xs : List X) (x : X) → list_any test xs ≡ false → Contains xs x → test x ≡ false
none_any test xs x none there = false_from_ne_true (test x) (λ is. both_ways (list_any test xs) none (any_of test xs x there is))

chosen_parts : (lines : Lines) (v : ℕ) (rs : List Rival) (o : Option ℕ) → is_chosen lines v rs o ≡ true
    → (w : ℕ) × (o ≡ Some w) × (list_any (comes_from lines v w) rs ≡ true)
chosen_parts lines v rs None is = absurd (false≢true is)
chosen_parts lines v rs (Some w) is = (w, refl, is)

pub chosen_from : (lines : Lines) (v : ℕ) (rs : List Rival) (o : Option ℕ) (w : ℕ) → o ≡ Some w → list_any (comes_from lines v w) rs ≡ true
    → is_chosen lines v rs o ≡ true
chosen_from lines v rs o w same any = ap (is_chosen lines v rs) same ∙ any

module _ (m : MediumState) (is : IsMedium m) (a : Scene) (h : Holds m a) (u : ℕ) (su : Station) (su_there : Contains m.stations su) (su_node : su.node ≡ u)
    (x : Sending) (runs : su.sending ≡ Some x) (x_kept : Contains (on_air su) x) (later : m.now ≤ x.end) where
  abbrev p : Numbers
  p = m.numbers

  abbrev scene : Scene
  scene = as_it_stands m x.end a

  abbrev rs : List Rival
  rs = rivals_to p x m.stations

  abbrev key : Key
  key = key_of p x

  own_x : IsOwn p su.node x
  own_x = (h.orderly su su_there).own x x_kept

  node_x : x.node ≡ u
  node_x = own_x.node ∙ su_node

  -- the same key by the numbers of the scene
  reach_on : (s : Station) (y : Sending) (v : ℕ) → Contains m.stations s → Contains (on_air s) y → Arrives scene v y → reaches a.lines v (rival p x s y) ≡ true
  reach_on s y v there kept arrives =
      ap (λ (n : ℕ). passes a.lines (y.start / p.frame) (slot_of_sending y) (counter_of_sending y) n v) (sym ((h.orderly s there).own y kept).node)
      ∙ ap (λ (q : Numbers). passes a.lines (y.start / q.frame) (slot_of_sending y) (counter_of_sending y) y.node v) (sym h.numbers) ∙ arrives

  reach_back : (s : Station) (y : Sending) (v : ℕ) → Contains m.stations s → Contains (on_air s) y → reaches a.lines v (rival p x s y) ≡ true
      → Arrives scene v y
  reach_back s y v there kept reaches_it =
      ap (λ (q : Numbers). passes a.lines (y.start / q.frame) (slot_of_sending y) (counter_of_sending y) y.node v) h.numbers
      ∙ ap (λ (n : ℕ). passes a.lines (y.start / p.frame) (slot_of_sending y) (counter_of_sending y) n v) ((h.orderly s there).own y kept).node ∙ reaches_it

  -- what meets x is kept
  kept_meeting : (y : Sending) → Contains a.sendings y → Meets x y → IsKept m y
  kept_meeting y sent meets =
      elim (h.known y sent) [
        | inl kept ↦ kept
        | inr over ↦ let long = not_long p su.node x own_x in let before = meets.before in absurd (omega arith)
      ]

  -- a rival in the scene is one of the medium's
  record Found (v : ℕ) (y : Sending) : Type 0 where
    station : Station
    there : Contains m.stations station
    kept : Contains (on_air station) y
    in_it : Contains rs (rival p x station y)
    reaches_it : reaches a.lines v (rival p x station y) ≡ true

  find_rival : (v : ℕ) (y : Sending) → RivalIn scene v x y → Found v y
  find_rival v y r =
      let kept = kept_meeting y r.sent r.meets in
      record {
        station = kept.station;
        there = kept.there;
        kept = kept.kept;
        in_it = in_rivals p x m.stations kept.station y kept.there kept.kept r.channel r.meets;
        reaches_it = reach_on kept.station y v kept.there kept.kept r.arrives;
      }

  rival_back : (v : ℕ) (r : Rival) (c : Comes p x m.stations r) → reaches a.lines v r ≡ true → RivalIn scene v x c.sending
  rival_back v r c reaches_it = record {
    sent = h.sent c.sending (record { station = c.station; there = c.there; kept = c.kept });
    channel = c.rank;
    meets = c.meets;
    arrives = reach_back c.station c.sending v c.there c.kept (ap (reaches a.lines v) c.is ∙ reaches_it);
  }

  module _ (st : Station) (there : Contains m.stations st) where
    abbrev v : ℕ
    v = st.node

    abbrev heard : Bool
    heard = is_heard a.lines u x key rs st

    -- the parts of the test
    record Parts : Type 0 where
      tuned : covers st x.rank x.start x.end ≡ true
      quiet : list_any (overlaps x) (on_air st) ≡ false
      arrives : passes_at a.lines key u v ≡ true
      clean : list_any (spoils a.lines v) rs ≡ false
      chosen : (list_any (differs a.lines v) rs ≡ false) ⊎ (is_chosen a.lines v rs (captured a.lines key.frame key.slot key.counter v) ≡ true)

    abbrev reached : Bool
    reached = passes_at a.lines key u v

    abbrev spoiled : Bool
    spoiled = list_any (spoils a.lines v) rs

    abbrev mixed : Bool
    mixed = list_any (differs a.lines v) rs

    abbrev is_tuned : Bool
    is_tuned = covers st x.rank x.start x.end

    abbrev sends : Bool
    sends = list_any (overlaps x) (on_air st)

    abbrev named : Bool
    named = is_chosen a.lines v rs (captured a.lines key.frame key.slot key.counter v)

    parts : heard ≡ true → Parts
    parts so =
        let four = and_parts (reached && not spoiled && is_tuned && not sends) (not mixed || named) so in
        let three = and_parts (reached && not spoiled && is_tuned) (not sends) four.0 in
        let two = and_parts (reached && not spoiled) is_tuned three.0 in
        let one = and_parts reached (not spoiled) two.0 in
        record {
          tuned = two.1;
          quiet = not-true sends three.1;
          arrives = one.0;
          clean = not-true spoiled one.1;
          chosen = elim (or_cases (not mixed) named four.1) [ inl none ↦ inl (not-true mixed none) | inr so ↦ inr so ];
        }

    whole : Parts → heard ≡ true
    whole q =
        and_from (reached && not spoiled && is_tuned && not sends) (not mixed || named)
        (and_from (reached && not spoiled && is_tuned) (not sends)
        (and_from (reached && not spoiled) is_tuned (and_from reached (not spoiled) q.arrives (not_from_false spoiled q.clean)) q.tuned)
        (not_from_false sends q.quiet))
        (elim q.chosen [ inl none ↦ or_left (not mixed) named (not_from_false mixed none) | inr so ↦ or_right (not mixed) named so ])

    early : x.start < x.end
    early = lasts_some p su.node x is.profile own_x

    key_arrives : passes_at a.lines key u v ≡ true → Arrives scene v x
    key_arrives so = reach_back su x v su_there x_kept (ap (λ (n : ℕ). passes_at a.lines key n v) su_node ∙ so)

    in_time : Parts → (y : Sending) → RivalIn scene v x y → y.packet ≡ x.packet → Before x y × (y.start ≤ x.start + p.delta)
    in_time q y r same =
        let f = find_rival v y r in
        let w = rival p x f.station y in
        elim (cases_Bool w.in_time) [
          | inl so ↦ before_true p x y so
          | inr late ↦
              absurd (both_ways (spoils a.lines v w) (none_any (spoils a.lines v) rs w q.clean f.in_it)
              (and_from (reaches a.lines v w && w.same) (not w.in_time) (and_from (reaches a.lines v w) w.same f.reaches_it (same_from y x same))
              (not_from_false w.in_time late)))
        ]

    heard_hears : heard ≡ true → HearsInScene scene v x
    heard_hears so =
        let q = parts so in
        record {
          sent = h.sent x (record { station = su; there = su_there; kept = x_kept });
          tuned = (h.tuned st there x.rank x.start x.end later early).1 q.tuned;
          silent = λ y sent own meets.
              let k = kept_meeting y sent meets in
              let same : k.station ≡ st =
              one_station m.stations is.nodes.ascending k.station st k.there there (sym ((h.orderly k.station k.there).own y k.kept).node ∙ own) in
              both_ways (list_any (overlaps x) (on_air st)) q.quiet
              (any_of (overlaps x) (on_air st) y (subst (λ (s : Station). Contains (on_air s) y) same k.kept) (meets_from x y meets));
          arrives = key_arrives q.arrives;
          first = λ y r same. (in_time q y r same).0;
          close = λ y r same. subst (λ (n : Numbers). y.start ≤ x.start + n.delta) (sym h.numbers) (in_time q y r same).1;
          chosen = elim q.chosen [
            | inl none ↦ inl (λ y r.
                let f = find_rival v y r in
                let w = rival p x f.station y in
                elim (cases_Bool w.same) [
                  | inl same ↦ same_true y x same
                  | inr other ↦ absurd (both_ways (differs a.lines v w) (none_any (differs a.lines v) rs w none f.in_it)
                      (and_from (reaches a.lines v w) (not w.same) f.reaches_it (not_from_false w.same other)))
                ])
            | inr named ↦
                let o = chosen_parts a.lines v rs (captured a.lines key.frame key.slot key.counter v) named in
                let s = some_of (comes_from a.lines v o.0) rs o.2 in
                let c = from_rivals p x m.stations s.0 s.1 in
                let three = and_parts (reaches a.lines v s.0 && s.0.same) (s.0.node == o.0) s.2 in
                let two = and_parts (reaches a.lines v s.0) s.0.same three.0 in
                let sender : c.sending.node ≡ o.0 =
                ((h.orderly c.station c.there).own c.sending c.kept).node ∙ ap (λ (r : Rival). r.node) c.is ∙ eqb-true s.0.node o.0 three.1 in
                inr (record {
                  winner = c.sending;
                  rival = rival_back v s.0 c two.0;
                  same = same_true c.sending x (ap (λ (r : Rival). r.same) c.is ∙ two.1);
                  named =
                      ap (λ (n : Numbers). captured a.lines (x.start / n.frame) (slot_of_sending x) (counter_of_sending x) v) h.numbers ∙ o.1
                      ∙ ap (λ (n : ℕ). Some n) (sym sender);
                })
          ];
        }

    hears_heard : HearsInScene scene v x → heard ≡ true
    hears_heard hears = whole (record {
      tuned = (h.tuned st there x.rank x.start x.end later early).0 hears.tuned;
      quiet = false_from_ne_true (list_any (overlaps x) (on_air st)) (λ some.
          let y = some_of (overlaps x) (on_air st) some in
          hears.silent y.0 (h.sent y.0 (record { station = st; there = there; kept = y.1 })) ((h.orderly st there).own y.0 y.1).node (meets_true x y.0 y.2));
      arrives = ap (λ (n : ℕ). passes_at a.lines key n v) (sym su_node) ∙ reach_on su x v su_there x_kept hears.arrives;
      clean = false_from_ne_true (list_any (spoils a.lines v) rs) (λ some.
          let s = some_of (spoils a.lines v) rs some in
          let c = from_rivals p x m.stations s.0 s.1 in
          let three = and_parts (reaches a.lines v s.0 && s.0.same) (not s.0.in_time) s.2 in
          let two = and_parts (reaches a.lines v s.0) s.0.same three.0 in
          let r = rival_back v s.0 c two.0 in
          let same = same_true c.sending x (ap (λ (w : Rival). w.same) c.is ∙ two.1) in
          let timely = before_from p x c.sending (hears.first c.sending r same)
          (subst (λ (n : Numbers). c.sending.start ≤ x.start + n.delta) h.numbers (hears.close c.sending r same)) in
          both_ways s.0.in_time (not-true s.0.in_time three.1) (ap (λ (w : Rival). w.in_time) (sym c.is) ∙ timely));
      chosen = elim hears.chosen [
        | inl alone ↦ inl (false_from_ne_true (list_any (differs a.lines v) rs) (λ some.
            let s = some_of (differs a.lines v) rs some in
            let c = from_rivals p x m.stations s.0 s.1 in
            let two = and_parts (reaches a.lines v s.0) (not s.0.same) s.2 in
            let same = alone c.sending (rival_back v s.0 c two.0) in
            both_ways s.0.same (not-true s.0.same two.1) (ap (λ (w : Rival). w.same) (sym c.is) ∙ same_from c.sending x same)))
        | inr won ↦
            let f = find_rival v won.winner won.rival in
            let w = rival p x f.station won.winner in
            let sender : w.node ≡ won.winner.node = sym ((h.orderly f.station f.there).own won.winner f.kept).node in
            inr (chosen_from a.lines v rs (captured a.lines key.frame key.slot key.counter v) won.winner.node
            (ap (λ (n : Numbers). captured a.lines (x.start / n.frame) (slot_of_sending x) (counter_of_sending x) v) (sym h.numbers) ∙ won.named)
            (any_of (comes_from a.lines v won.winner.node) rs w f.in_it
            (and_from (reaches a.lines v w && w.same) (w.node == won.winner.node)
            (and_from (reaches a.lines v w) w.same f.reaches_it (same_from won.winner x won.same)) (eq-eqb w.node won.winner.node sender))))
      ];
    })

  of_heard : (b : Bool) (n : ℕ) (q : ℕ × ℕ) → (let some : Option (ℕ × ℕ) = if b then Some (n, u) else None in some ≡ Some q) → (b ≡ true) × (q ≡ (n, u))
  of_heard true n q is = (refl, cc)
  of_heard false n q is = cc

  pub hearers_are : (w : ℕ) → Contains (hearers_to p a.lines u x m.stations) (w, u) ↔ (Contains (nodes_of m) w × HearsInScene scene w x)
  hearers_are w = (
    λ there.
        let s = filter_from (reception_pair a.lines u x key rs) m.stations (w, u) there in
        let both = of_heard (is_heard a.lines u x key rs s.0) s.0.node (w, u) s.2 in
        let node : s.0.node ≡ w = sym (ap (λ (q : ℕ × ℕ). q.0) both.1) in (
          subst (Contains (nodes_of m)) node (map_contains id_of_station m.stations s.0 s.1),
          subst (λ (n : ℕ). HearsInScene scene n x) node (heard_hears s.0 s.1 both.0),
        ),
    λ is_one.
        let s = map_from id_of_station m.stations w is_one.0 in
        let so : is_heard a.lines u x key rs s.0 ≡ true = hears_heard s.0 s.1 (subst (λ (n : ℕ). HearsInScene scene n x) (sym s.2) is_one.1) in
        in_filter (reception_pair a.lines u x key rs) m.stations s.0 (w, u) s.1
        (ap (λ (b : Bool). let some : Option (ℕ × ℕ) = if b then Some (s.0.node, u) else None in some) so
        ∙ ap (λ (n : ℕ). let some : Option (ℕ × ℕ) = Some (n, u) in some) s.2),
  )
