-- What is looked at to decide a reception is what the rule of reception asks.
use Rattle.std.proofs.Common.{◌≡◌, ℕ, ◌+◌, ◌≤◌, ◌⊎◌, inl, inr, List, Bool, true, false, not, ◌&&◌, ◌||◌, ◌==◌}
use Rattle.std.proofs.Common.{Option, Some, None, refl, sym, ◌∙◌, ap, subst, eq-eqb, Contains}
use Rattle.std.proofs.lemmas.Bool.{and_parts, and_from, or_cases, or_left, or_right, eqb-true, cases_Bool, both_ways, not-true, not_from_false}
use Rattle.std.proofs.lemmas.Bool.{false_from_ne_true, false≢true}
use Rattle.std.specs.List.{list_any}
use Rattle.std.specs.Str.{bytes_eq}
use Rattle.lwb_base.specs.Profile.{Numbers}
use Rattle.link_trace.specs.Passes.{Lines, captured}
use Rattle.radio_model.specs.OnAir.{Sending}
use Rattle.radio_model.specs.Hearing.{Scene, HearsInScene, Rival, Before, TunedThrough, frame_of_sending, slot_of_sending, counter_of_sending}
use Rattle.radio_model.specs.Meetings.{comes_in_time}
use Rattle.radio_model.specs.Stations.{overlaps}
use Rattle.lwb_base.proofs.Elements.{any_of, some_of}
use Rattle.radio_model.proofs.RivalFacts.{meets_true, meets_from, same_true, same_from, before_true, before_from}
use Rattle.radio_model.specs.Receptions.{AreNear, transmits, arrives, meets_on, repeats, differs, spoils, repeats_from, is_captured, comes_through}

none_any : {X : Type 0} (test : X → Bool) (xs : List X) (x : X) → list_any test xs ≡ false → Contains xs x → test x ≡ true → ⊥
none_any test xs x none there so = both_ways (list_any test xs) none (any_of test xs x there so)

module _ (p : Numbers) (lines : Lines) (a : Scene) (numbers : a.numbers ≡ p) (trace : a.lines ≡ lines)
    (near : List Sending) (x : Sending) (are : AreNear a.sendings x near) (v : ℕ) where
  -- a rival is one that comes to v while x does
  rival_near : (y : Sending) → Rival a v x y → Contains near y
  rival_near y r = are.all y r.sent r.meets

  meets_so : (y : Sending) → Rival a v x y → meets_on x y ≡ true
  meets_so y r = and_from (y.rank == x.rank) (overlaps x y) (eq-eqb y.rank x.rank r.channel) (meets_from x y r.meets)

  comes_so : (y : Sending) → Rival a v x y → arrives p lines v y ≡ true
  comes_so y r = ap (λ (q : Numbers). arrives q lines v y) (sym numbers) ∙ ap (λ (l : Lines). arrives a.numbers l v y) (sym trace) ∙ r.arrives

  repeats_so : (y : Sending) → Rival a v x y → y.packet ≡ x.packet → repeats x y ≡ true
  repeats_so y r same = and_from (meets_on x y) (bytes_eq y.packet x.packet) (meets_so y r) (same_from y x same)

  rival_of : (y : Sending) → Contains near y → meets_on x y ≡ true → arrives p lines v y ≡ true → Rival a v x y
  rival_of y there on comes =
      let one = and_parts (y.rank == x.rank) (overlaps x y) on in
      record {
        sent = are.among y there;
        channel = eqb-true y.rank x.rank one.0;
        meets = meets_true x y one.1;
        arrives = ap (λ (l : Lines). arrives a.numbers l v y) trace ∙ ap (λ (q : Numbers). arrives q lines v y) numbers ∙ comes;
      }

  abbrev busy : Bool
  busy = list_any (transmits v x) near

  abbrev spoiled : Bool
  spoiled = list_any (spoils p lines v x) near

  abbrev mixed : Bool
  mixed = list_any (differs p lines v x) near

  abbrev named : Option ℕ
  named = captured lines (frame_of_sending p x) (slot_of_sending x) (counter_of_sending x) v

  abbrev chosen : Bool
  chosen = is_captured p lines v x near named

  record Parts : Type 0 where
    arrives_so : arrives p lines v x ≡ true
    quiet : busy ≡ false
    clean : spoiled ≡ false
    chosen_so : (mixed ≡ false) ⊎ (chosen ≡ true)

  parts : comes_through p lines v x near ≡ true → Parts
  parts so =
      let three = and_parts (arrives p lines v x && not busy && not spoiled) (not mixed || chosen) so in
      let two = and_parts (arrives p lines v x && not busy) (not spoiled) three.0 in
      let one = and_parts (arrives p lines v x) (not busy) two.0 in
      record {
        arrives_so = one.0;
        quiet = not-true busy one.1;
        clean = not-true spoiled two.1;
        chosen_so = elim (or_cases (not mixed) chosen three.1) [ inl none ↦ inl (not-true mixed none) | inr so ↦ inr so ];
      }

  whole : Parts → comes_through p lines v x near ≡ true
  whole q =
      and_from (arrives p lines v x && not busy && not spoiled) (not mixed || chosen)
      (and_from (arrives p lines v x && not busy) (not spoiled)
      (and_from (arrives p lines v x) (not busy) q.arrives_so (not_from_false busy q.quiet)) (not_from_false spoiled q.clean))
      (elim q.chosen_so [ inl none ↦ or_left (not mixed) chosen (not_from_false mixed none) | inr so ↦ or_right (not mixed) chosen so ])

  in_time : Parts → (y : Sending) → Rival a v x y → y.packet ≡ x.packet → Before x y × (y.start ≤ x.start + p.delta)
  in_time q y r same = elim (cases_Bool (comes_in_time p x y)) [
    | inl so ↦ before_true p x y so
    | inr late ↦
        absurd (none_any (spoils p lines v x) near y q.clean (rival_near y r)
        (and_from (repeats x y && not (comes_in_time p x y)) (arrives p lines v y)
        (and_from (repeats x y) (not (comes_in_time p x y)) (repeats_so y r same) (not_from_false (comes_in_time p x y) late)) (comes_so y r)))
  ]

  alone : mixed ≡ false → (y : Sending) → Rival a v x y → y.packet ≡ x.packet
  alone none y r = elim (cases_Bool (bytes_eq y.packet x.packet)) [
    | inl same ↦ same_true y x same
    | inr other ↦
        absurd (none_any (differs p lines v x) near y none (rival_near y r)
        (and_from (meets_on x y && not (bytes_eq y.packet x.packet)) (arrives p lines v y)
        (and_from (meets_on x y) (not (bytes_eq y.packet x.packet)) (meets_so y r) (not_from_false (bytes_eq y.packet x.packet) other)) (comes_so y r)))
  ]

  named_is : captured a.lines (frame_of_sending a.numbers x) (slot_of_sending x) (counter_of_sending x) v ≡ named
  named_is =
      ap (λ (l : Lines). captured l (frame_of_sending a.numbers x) (slot_of_sending x) (counter_of_sending x) v) trace
      ∙ ap (λ (q : Numbers). captured lines (frame_of_sending q x) (slot_of_sending x) (counter_of_sending x) v) numbers

  captured_parts : (o : Option ℕ) → is_captured p lines v x near o ≡ true
      → (u : ℕ) × (o ≡ Some u) × (list_any (repeats_from p lines v x u) near ≡ true)
  captured_parts None is = absurd (false≢true is)
  captured_parts (Some u) is = (u, refl, is)

  captured_from : (o : Option ℕ) (u : ℕ) → o ≡ Some u → list_any (repeats_from p lines v x u) near ≡ true → is_captured p lines v x near o ≡ true
  captured_from o u same any = ap (is_captured p lines v x near) same ∙ any

  pub gives : Contains a.sendings x → TunedThrough a v x → comes_through p lines v x near ≡ true → HearsInScene a v x
  gives sent tuned so =
      let q = parts so in
      record {
        sent = sent;
        tuned = tuned;
        silent = λ y there own meets.
            none_any (transmits v x) near y q.quiet (are.all y there meets)
            (and_from (y.node == v) (overlaps x y) (eq-eqb y.node v own) (meets_from x y meets));
        arrives = ap (λ (l : Lines). arrives a.numbers l v x) trace ∙ ap (λ (n : Numbers). arrives n lines v x) numbers ∙ q.arrives_so;
        first = λ y r same. (in_time q y r same).0;
        close = λ y r same. subst (λ (n : Numbers). y.start ≤ x.start + n.delta) (sym numbers) (in_time q y r same).1;
        chosen = elim q.chosen_so [
          | inl none ↦ inl (alone none)
          | inr so ↦
              let o = captured_parts named so in
              let s = some_of (repeats_from p lines v x o.0) near o.2 in
              let three = and_parts ((s.0.node == o.0) && repeats x s.0) (arrives p lines v s.0) s.2 in
              let two = and_parts (s.0.node == o.0) (repeats x s.0) three.0 in
              let one = and_parts (meets_on x s.0) (bytes_eq s.0.packet x.packet) two.1 in
              inr (record {
                winner = s.0;
                rival = rival_of s.0 s.1 one.0 three.1;
                same = same_true s.0 x one.1;
                named = named_is ∙ o.1 ∙ ap (λ (n : ℕ). Some n) (sym (eqb-true s.0.node o.0 two.0));
              })
        ];
      }

  pub asks : HearsInScene a v x → comes_through p lines v x near ≡ true
  asks hears = whole (record {
    arrives_so = ap (λ (q : Numbers). arrives q lines v x) (sym numbers) ∙ ap (λ (l : Lines). arrives a.numbers l v x) (sym trace) ∙ hears.arrives;
    quiet = false_from_ne_true busy (λ some.
        let y = some_of (transmits v x) near some in
        let two = and_parts (y.0.node == v) (overlaps x y.0) y.2 in
        hears.silent y.0 (are.among y.0 y.1) (eqb-true y.0.node v two.0) (meets_true x y.0 two.1));
    clean = false_from_ne_true spoiled (λ some.
        let y = some_of (spoils p lines v x) near some in
        let three = and_parts (repeats x y.0 && not (comes_in_time p x y.0)) (arrives p lines v y.0) y.2 in
        let two = and_parts (repeats x y.0) (not (comes_in_time p x y.0)) three.0 in
        let one = and_parts (meets_on x y.0) (bytes_eq y.0.packet x.packet) two.0 in
        let r = rival_of y.0 y.1 one.0 three.1 in
        let same = same_true y.0 x one.1 in
        both_ways (comes_in_time p x y.0) (not-true (comes_in_time p x y.0) two.1)
        (before_from p x y.0 (hears.first y.0 r same) (subst (λ (n : Numbers). y.0.start ≤ x.start + n.delta) numbers (hears.close y.0 r same))));
    chosen_so = elim hears.chosen [
      | inl alone ↦ inl (false_from_ne_true mixed (λ some.
          let y = some_of (differs p lines v x) near some in
          let three = and_parts (meets_on x y.0 && not (bytes_eq y.0.packet x.packet)) (arrives p lines v y.0) y.2 in
          let two = and_parts (meets_on x y.0) (not (bytes_eq y.0.packet x.packet)) three.0 in
          both_ways (bytes_eq y.0.packet x.packet) (not-true (bytes_eq y.0.packet x.packet) two.1)
          (same_from y.0 x (alone y.0 (rival_of y.0 y.1 two.0 three.1)))))
      | inr c ↦
          let w = c.winner in
          inr (captured_from named w.node (sym named_is ∙ c.named)
          (any_of (repeats_from p lines v x w.node) near w (rival_near w c.rival)
          (and_from ((w.node == w.node) && repeats x w) (arrives p lines v w)
          (and_from (w.node == w.node) (repeats x w) (eq-eqb w.node w.node refl) (repeats_so w c.rival c.same)) (comes_so w c.rival))))
    ];
  })
