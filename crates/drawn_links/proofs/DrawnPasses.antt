-- What passes where coins draw losses: what passes without them, and its coin does.
use Rattle.std.proofs.Common.{◌≡◌, ℕ, zero, suc, ◌+◌, List, [], ◌∷◌, Bool, true, false, not, ◌&&◌, ◌||◌, ◌==◌, nat_lt, nat_le, map, filter}
use Rattle.std.proofs.Common.{cond, refl, sym, ◌∙◌, ap, arith}
use Rattle.std.proofs.lemmas.Bool.{and_parts, and_from, eqb-true}
use Rattle.std.proofs.lemmas.Bool.Decides.{nat_tests}
use Rattle.std.proofs.lemmas.List.Concat.{flat_map-cons}
use Rattle.std.proofs.lemmas.List.Folds.{list_any-append}
use Rattle.std.specs.List.{flat_map, list_any, range_with_len}
use Rattle.lwb_base.specs.declared.limits.TheConstants.{FLOOD_STEPS}
use Rattle.lwb_base.proofs.Truths.{same_truth}
use Rattle.link_trace.specs.Passes.{Lines, is_link, is_loss, cut_off, passes}
use Rattle.link_trace.specs.declared.lines.LinkLine.{LinkLine}
use Rattle.drawn_links.specs.DrawnLosses.{SLOTS, drawn, drawn_losses, is_drawn, loss_of, losses_in_step}
use Rattle.drawn_links.specs.Drawings.{has_coins}
use Rattle.drawn_links.specs.declared.ratio_line.RatioLine.{RatioLine}

-- two tests that pass together
swapped : (a b c : Bool) → (a && (b && c)) ≡ (b && (a && c))
swapped true b c = refl
swapped false true c = refl
swapped false false c = refl

none_second : (a : Bool) → false ≡ (a && false)
none_second true = refl
none_second false = refl

-- one of the elements that a test keeps, each made into another
any_made : {X Y : Type 0} (p : Y → Bool) (g : X → Y) (q : X → Bool) (xs : List X) → list_any p (map g (filter q xs)) ≡ list_any (λ x. q x && p (g x)) xs
any_made p g q [] = refl
any_made {X} {Y} p g q (x ∷ xs) = by (q x) (any_made p g q xs)
  where
    by : (b : Bool) → list_any p (map g (filter q xs)) ≡ list_any (λ x. q x && p (g x)) xs
        → list_any p (map g (cond b (x ∷ filter q xs) (filter q xs))) ≡ ((b && p (g x)) || list_any (λ x. q x && p (g x)) xs)
    by true rest = ap (λ (c : Bool). p (g x) || c) rest
    by false rest = rest

any_of_lists : {X Y : Type 0} (p : Y → Bool) (g : X → List Y) (xs : List X) → list_any p (flat_map g xs) ≡ list_any (λ x. list_any p (g x)) xs
any_of_lists p g [] = refl
any_of_lists p g (x ∷ xs) =
    ap (list_any p) (flat_map-cons g x xs) ∙ list_any-append p (g x) (flat_map g xs) ∙ ap (λ (b : Bool). list_any p (g x) || b) (any_of_lists p g xs)

any_and : {X : Type 0} (c : Bool) (p : X → Bool) (xs : List X) → list_any (λ x. c && p x) xs ≡ (c && list_any p xs)
any_and true p xs = refl
any_and false p [] = refl
any_and false p (x ∷ xs) = any_and false p xs

-- one number among those from a on
is_among : (f a n : ℕ) → list_any (λ x. x == f) (range_with_len a n) ≡ (nat_le a f && nat_lt f (a + n))
is_among f a zero = none a f
  where
    none : (a f : ℕ) → false ≡ (nat_le a f && nat_lt f (a + zero))
    none a f = grind (arith, nat_tests)
is_among f a (suc n) = ap (λ (b : Bool). (a == f) || b) (is_among f (a + 1) n) ∙ more a f n
  where
    more : (a f n : ℕ) → ((a == f) || (nat_le (a + 1) f && nat_lt f (a + 1 + n))) ≡ (nat_le a f && nat_lt f (a + suc n))
    more a f n = grind (arith, nat_tests)

-- of numbers below n, one alone passes
any_below : (f n : ℕ) (c : Bool) (test : ℕ → Bool) → ((x : ℕ) → test x ≡ (c && (x == f))) → list_any test (range_with_len 0 n) ≡ (c && nat_lt f n)
any_below f n c test each =
    (λ i. list_any (λ x. each x i) (range_with_len 0 n))
    ∙ any_and c (λ x. x == f) (range_with_len 0 n) ∙ ap (λ (b : Bool). c && b) (is_among f 0 n ∙ from_zero f n)
  where
    from_zero : (f n : ℕ) → (nat_le 0 f && nat_lt f (0 + n)) ≡ nat_lt f n
    from_zero f n = grind (arith, nat_tests)

module _ (ratios : List RatioLine) (seed f j k u v : ℕ) where
  -- what is drawn at the link's own numbers
  same_draw : (f' j' k' u' v' : ℕ) → f' ≡ f → j' ≡ j → k' ≡ k → u' ≡ u → v' ≡ v
      → is_drawn ratios seed f' j' k' u' v' ≡ is_drawn ratios seed f j k u v
  same_draw f' j' k' u' v' same_f same_j same_k same_u same_v =
      ap (λ (x : ℕ). is_drawn ratios seed x j' k' u' v') same_f ∙ ap (λ (x : ℕ). is_drawn ratios seed f x k' u' v') same_j
      ∙ ap (λ (x : ℕ). is_drawn ratios seed f j x u' v') same_k ∙ ap (λ (x : ℕ). is_drawn ratios seed f j k x v') same_u
      ∙ ap (λ (x : ℕ). is_drawn ratios seed f j k u x) same_v

  -- the drawn line of a link is that of the key
  abbrev of_step : ℕ → ℕ → ℕ → Bool
  of_step f' j' k' = is_drawn ratios seed f j k u v && ((f' == f) && ((j' == j) && (k' == k)))

  of_link : (f' j' k' : ℕ) (l : LinkLine)
      → (is_drawn ratios seed f' j' k' l.from l.to && is_loss f j k u v (loss_of f' j' k' l)) ≡ (of_step f' j' k' && is_link u v l)
  of_link f' j' k' l = same_truth
      (is_drawn ratios seed f' j' k' l.from l.to && is_loss f j k u v (loss_of f' j' k' l)) (of_step f' j' k' && is_link u v l) to from
    where
      to : (is_drawn ratios seed f' j' k' l.from l.to && is_loss f j k u v (loss_of f' j' k' l)) ≡ true → (of_step f' j' k' && is_link u v l) ≡ true
      to is =
          let both = and_parts (is_drawn ratios seed f' j' k' l.from l.to) (is_loss f j k u v (loss_of f' j' k' l)) is in
          let a = and_parts ((f' == f) && (j' == j) && (k' == k) && (l.from == u)) (l.to == v) both.1 in
          let b = and_parts ((f' == f) && (j' == j) && (k' == k)) (l.from == u) a.0 in
          let c = and_parts ((f' == f) && (j' == j)) (k' == k) b.0 in
          let d = and_parts (f' == f) (j' == j) c.0 in
          let draw = same_draw f' j' k' l.from l.to (eqb-true f' f d.0) (eqb-true j' j d.1) (eqb-true k' k c.1) (eqb-true l.from u b.1) (eqb-true l.to v a.1) in
          and_from (of_step f' j' k') (is_link u v l)
          (and_from (is_drawn ratios seed f j k u v) ((f' == f) && ((j' == j) && (k' == k))) (sym draw ∙ both.0)
          (and_from (f' == f) ((j' == j) && (k' == k)) d.0 (and_from (j' == j) (k' == k) d.1 c.1)))
          (and_from (l.from == u) (l.to == v) b.1 a.1)

      from : (of_step f' j' k' && is_link u v l) ≡ true → (is_drawn ratios seed f' j' k' l.from l.to && is_loss f j k u v (loss_of f' j' k' l)) ≡ true
      from is =
          let both = and_parts (of_step f' j' k') (is_link u v l) is in
          let ends = and_parts (l.from == u) (l.to == v) both.1 in
          let a = and_parts (is_drawn ratios seed f j k u v) ((f' == f) && ((j' == j) && (k' == k))) both.0 in
          let b = and_parts (f' == f) ((j' == j) && (k' == k)) a.1 in
          let c = and_parts (j' == j) (k' == k) b.1 in
          let draw = same_draw f' j' k' l.from l.to (eqb-true f' f b.0) (eqb-true j' j c.0) (eqb-true k' k c.1) (eqb-true l.from u ends.0)
          (eqb-true l.to v ends.1) in
          and_from (is_drawn ratios seed f' j' k' l.from l.to) (is_loss f j k u v (loss_of f' j' k' l)) (draw ∙ a.0)
          (and_from ((f' == f) && (j' == j) && (k' == k) && (l.from == u)) (l.to == v)
          (and_from ((f' == f) && (j' == j) && (k' == k)) (l.from == u)
          (and_from ((f' == f) && (j' == j)) (k' == k) (and_from (f' == f) (j' == j) b.0 c.0) c.1) ends.0) ends.1)

  module _ (links : List LinkLine) where
    abbrev linked : Bool
    linked = list_any (is_link u v) links

    abbrev lost_there : Bool
    lost_there = is_drawn ratios seed f j k u v && linked

    in_step : (f' j' k' : ℕ) → list_any (is_loss f j k u v) (losses_in_step links ratios seed f' j' k') ≡ (of_step f' j' k' && linked)
    in_step f' j' k' =
        any_made (is_loss f j k u v) (loss_of f' j' k') (λ l. is_drawn ratios seed f' j' k' l.from l.to) links
        ∙ (λ i. list_any (λ l. of_link f' j' k' l i) links)
        ∙ any_and (of_step f' j' k') (is_link u v) links

    last_first : (d a b c l : Bool) → ((d && (a && (b && c))) && l) ≡ (((d && l) && (a && b)) && c)
    last_first true true true true l = one l
      where
        one : (l : Bool) → l ≡ ((l && true) && true)
        one true = refl
        one false = refl
    last_first true true true false l = none_second (((true && l) && (true && true)))
    last_first true true false c l = two l c
      where
        two : (l c : Bool) → false ≡ ((l && false) && c)
        two true c = refl
        two false c = refl
    last_first true false b c l = two l c
      where
        two : (l c : Bool) → false ≡ ((l && false) && c)
        two true c = refl
        two false c = refl
    last_first false a b c l = refl

    in_slot : (f' j' : ℕ) → list_any (is_loss f j k u v) (flat_map (losses_in_step links ratios seed f' j') (range_with_len 0 FLOOD_STEPS))
        ≡ ((lost_there && ((f' == f) && (j' == j))) && nat_lt k FLOOD_STEPS)
    in_slot f' j' =
        any_of_lists (is_loss f j k u v) (losses_in_step links ratios seed f' j') (range_with_len 0 FLOOD_STEPS)
        ∙ any_below k FLOOD_STEPS (lost_there && ((f' == f) && (j' == j))) (λ k'. list_any (is_loss f j k u v) (losses_in_step links ratios seed f' j' k'))
        (λ k'. in_step f' j' k' ∙ last_first (is_drawn ratios seed f j k u v) (f' == f) (j' == j) (k' == k) linked)

    slot_first : (l a b c : Bool) → ((l && (a && b)) && c) ≡ (((l && c) && a) && b)
    slot_first true true true c = one c
      where
        one : (c : Bool) → c ≡ ((c && true) && true)
        one true = refl
        one false = refl
    slot_first true true false c = none_second ((true && c) && true)
    slot_first true false b c = two c b
      where
        two : (c b : Bool) → false ≡ ((c && false) && b)
        two true b = refl
        two false b = refl
    slot_first false a b c = refl

    in_frame : (f' : ℕ)
        → list_any (is_loss f j k u v)
        (flat_map (λ j'. flat_map (losses_in_step links ratios seed f' j') (range_with_len 0 FLOOD_STEPS)) (range_with_len 0 SLOTS))
        ≡ (((lost_there && nat_lt k FLOOD_STEPS) && (f' == f)) && nat_lt j SLOTS)
    in_frame f' =
        any_of_lists (is_loss f j k u v) (λ j'. flat_map (losses_in_step links ratios seed f' j') (range_with_len 0 FLOOD_STEPS)) (range_with_len 0 SLOTS)
        ∙ any_below j SLOTS ((lost_there && nat_lt k FLOOD_STEPS) && (f' == f))
        (λ j'. list_any (is_loss f j k u v) (flat_map (losses_in_step links ratios seed f' j') (range_with_len 0 FLOOD_STEPS)))
        (λ j'. in_slot f' j' ∙ slot_first lost_there (f' == f) (j' == j) (nat_lt k FLOOD_STEPS))

    frame_first : (l a b : Bool) → ((l && a) && b) ≡ ((l && b) && a)
    frame_first true true b = one b
      where
        one : (b : Bool) → b ≡ (b && true)
        one true = refl
        one false = refl
    frame_first true false b = none_second b
    frame_first false a b = refl

    ordered : (d l s t n : Bool) → (((((d && l) && s) && t)) && n) ≡ (l && ((n && (t && s)) && d))
    ordered d false s t n = off d s t n
      where
        off : (d s t n : Bool) → (((((d && false) && s) && t)) && n) ≡ false
        off true s t n = refl
        off false s t n = refl
    ordered d true s t false = sym (none_second ((((d && true) && s) && t)))
    ordered d true s false true = rw (sym (none_second ((d && true) && s))) refl
    ordered d true false true true = rw (sym (none_second (d && true))) refl
    ordered true true true true true = refl
    ordered false true true true true = refl

    -- the losses that are drawn hold one of the link in that step if and only if it is a link, and its coin is thrown and does not pass
    pub among_drawn : (frames : ℕ) → list_any (is_loss f j k u v) (drawn_losses links ratios seed frames)
        ≡ (linked && (has_coins frames f j k && is_drawn ratios seed f j k u v))
    among_drawn frames =
        any_of_lists (is_loss f j k u v)
        (λ f'. flat_map (λ j'. flat_map (losses_in_step links ratios seed f' j') (range_with_len 0 FLOOD_STEPS)) (range_with_len 0 SLOTS))
        (range_with_len 0 frames)
        ∙ any_below f frames ((lost_there && nat_lt k FLOOD_STEPS) && nat_lt j SLOTS)
        (λ f'. list_any (is_loss f j k u v)
        (flat_map (λ j'. flat_map (losses_in_step links ratios seed f' j') (range_with_len 0 FLOOD_STEPS)) (range_with_len 0 SLOTS)))
        (λ f'. in_frame f' ∙ frame_first (lost_there && nat_lt k FLOOD_STEPS) (f' == f) (nat_lt j SLOTS))
        ∙ ordered (is_drawn ratios seed f j k u v) linked (nat_lt k FLOOD_STEPS) (nat_lt j SLOTS) (nat_lt f frames)

less : (l own lost c d : Bool) → ((l && not (own || (l && lost))) && not c && not d) ≡ ((l && not own && not c && not d) && not lost)
less false own lost c d = refl
less true true lost c d = refl
less true false true c d = none_second (not c && not d)
less true false false c d = one (not c && not d)
  where
    one : (b : Bool) → b ≡ (b && true)
    one true = refl
    one false = refl

-- a link passes over the drawn lines if and only if it passes over those of the trace and no coin that is thrown for it fails
pub passes_drawn : (t : Lines) (ratios : List RatioLine) (seed frames f j k u v : ℕ)
    → passes (drawn t ratios seed frames) f j k u v ≡ (passes t f j k u v && not (has_coins frames f j k && is_drawn ratios seed f j k u v))
passes_drawn t ratios seed frames f j k u v =
    ap (λ (b : Bool). list_any (is_link u v) t.links && not b && not (cut_off t.cuts f j k u) && not (cut_off t.cuts f j k v))
    (list_any-append (is_loss f j k u v) t.losses (drawn_losses t.links ratios seed frames)
    ∙ ap (λ (b : Bool). list_any (is_loss f j k u v) t.losses || b) (among_drawn ratios seed f j k u v t.links frames))
    ∙ less (list_any (is_link u v) t.links) (list_any (is_loss f j k u v) t.losses) (has_coins frames f j k && is_drawn ratios seed f j k u v)
    (cut_off t.cuts f j k u) (cut_off t.cuts f j k v)
