-- When coins draw nothing, and that only the ratios of links count.
use Rattle.std.proofs.Common.{◌≡◌, ℕ, ◌+◌, ◌*◌, ◌/◌, ◌%◌, ◌^◌, ◌<◌, List, [], ◌∷◌, ◌++◌, Bool, true, false, not, ◌==◌, map, filter, reverse}
use Rattle.std.proofs.Common.{Option, Some, None, IfSome, option_map, cond, bit_xor, refl, sym, ◌∙◌, ap, subst, arith}
use Rattle.std.proofs.lemmas.Bool.{and_parts, eqb-true, eq-eqb, or_left, or_right, lt-ltb, le-ltb}
use Rattle.std.proofs.lemmas.List.{append-nil}
use Rattle.std.proofs.lemmas.List.Concat.{flat_map-cons}
use Rattle.std.proofs.lemmas.Nat.{xor_lt}
use Rattle.std.specs.List.{find, flat_map, list_all, list_any, range_with_len}
use Rattle.std.specs.Option.{option_map_or, option_or}
use Rattle.lwb_base.specs.declared.limits.TheConstants.{FLOOD_STEPS}
use Rattle.link_trace.specs.Passes.{Lines, is_link}
use Rattle.link_trace.specs.declared.lines.LinkLine.{LinkLine}
use Rattle.link_trace.specs.declared.lines.LoseLine.{LoseLine}
use Rattle.rand_xoshiro.specs.SplitMix64.{fold_mul, next_state}
use Rattle.drawn_links.specs.Coins.{coin, coin_key, coin_passes, splitmix}
use Rattle.drawn_links.specs.Ratios.{is_begun, ratio_in}
use Rattle.drawn_links.specs.DrawnLosses.{SLOTS, drawn, drawn_losses, is_drawn, loss_of, losses_in_step}
use Rattle.drawn_links.specs.declared.ratio_line.RatioLine.{RatioLine}
use Rattle.drawn_links.proofs.LastOnes.{last_more}

-- what the generator puts out has 64 bits
output_small : (x : ℕ) → splitmix x < 2 ^ 64
output_small x =
    let z = fold_mul (next_state x) 30 0xbf58476d1ce4e5b9 in
    folded (fold_mul z 27 0x94d049bb133111eb) (wrapped z 27 0x94d049bb133111eb)
  where
    wrapped : (z k m : ℕ) → fold_mul z k m < 2 ^ 64
    wrapped z k m = by_mod (bit_xor z (z / 2 ^ k) * m)
      where
        by_mod : (n : ℕ) → n % 2 ^ 64 < 2 ^ 64
        by_mod n = omega arith

    folded : (z : ℕ) → z < 2 ^ 64 → bit_xor z (z / 2 ^ 31) < 2 ^ 64
    folded z small = xor_lt 64 z (z / 2 ^ 31) small (omega arith)

pub coin_small : (seed key : ℕ) → coin seed key < 2 ^ 53
unfolding coin
coin_small seed key =
    let small = output_small ((splitmix (seed % 2 ^ 64) + key * 0x9e3779b97f4a7c15) % 2 ^ 64) in
    upper (splitmix ((splitmix (seed % 2 ^ 64) + key * 0x9e3779b97f4a7c15) % 2 ^ 64)) small
  where
    upper : (n : ℕ) → n < 2 ^ 64 → n / 2 ^ 11 < 2 ^ 53
    upper n small = omega arith

pub all_pass : (seed key : ℕ) → coin_passes 1000000 seed key ≡ true
all_pass seed key = lt-ltb (coin seed key * 1000000) (1000000 * 2 ^ 53) (let small = coin_small seed key in omega arith)

pub none_pass : (seed key : ℕ) → coin_passes 0 seed key ≡ false
none_pass seed key = le-ltb (coin seed key * 1000000) 0 (omega arith)

-- what all have, the last that passes has
of_last : {X : Type 0} (p q : X → Bool) (xs : List X) → list_all q xs ≡ true → IfSome (find p (reverse xs)) (λ x. q x ≡ true)
of_last p q [] all = tt
of_last {X} p q (x ∷ xs) all =
    let parts = and_parts (q x) (list_all q xs) all in
    subst (λ (o : Option X). IfSome o (λ y. q y ≡ true)) (sym (last_more p x xs))
    (by (find p (reverse xs)) (of_last p q xs parts.1) (p x) parts.0)
  where
    by : (o : Option X) → IfSome o (λ y. q y ≡ true) → (b : Bool) → q x ≡ true → IfSome (option_or o (cond b (Some x) None)) (λ y. q y ≡ true)
    by (Some y) has b own = has
    by None has true own = own
    by None has false own = tt

abbrev is_full : RatioLine → Bool
is_full l = l.ratio == 1000000

none_drawn : (ratios : List RatioLine) (seed f j k u v : ℕ) → list_all is_full ratios ≡ true → is_drawn ratios seed f j k u v ≡ false
none_drawn ratios seed f j k u v full = by (find (is_begun f u v) (reverse ratios)) (of_last (is_begun f u v) is_full ratios full)
  where
    by : (o : Option RatioLine) → IfSome o (λ l. is_full l ≡ true)
        → option_map_or (λ ratio. not (coin_passes ratio seed (coin_key f j k u v))) (option_map (λ (l : RatioLine). l.ratio) o) false ≡ false
    by None is = refl
    by (Some l) is =
        ap (λ (r : ℕ). not (coin_passes r seed (coin_key f j k u v))) (eqb-true l.ratio 1000000 is) ∙ ap not (all_pass seed (coin_key f j k u v))

none_kept : {X : Type 0} (p : X → Bool) (xs : List X) → ((x : X) → p x ≡ false) → filter p xs ≡ []
none_kept p [] none = refl
none_kept p (x ∷ xs) none = ap (λ (b : Bool). cond b (x ∷ filter p xs) (filter p xs)) (none x) ∙ none_kept p xs none

all_empty : {X Y : Type 0} (g : X → List Y) (xs : List X) → ((x : X) → g x ≡ []) → flat_map g xs ≡ []
all_empty g [] none = refl
all_empty {X} {Y} g (x ∷ xs) none = flat_map-cons g x xs ∙ ap (λ (l : List Y). l ++ flat_map g xs) (none x) ∙ all_empty g xs none

no_losses : (links : List LinkLine) (ratios : List RatioLine) (seed frames : ℕ) → list_all is_full ratios ≡ true → drawn_losses links ratios seed frames ≡ []
no_losses links ratios seed frames full =
    all_empty (λ f. flat_map (λ j. flat_map (losses_in_step links ratios seed f j) (range_with_len 0 FLOOD_STEPS)) (range_with_len 0 SLOTS))
    (range_with_len 0 frames)
    (λ f. all_empty (λ j. flat_map (losses_in_step links ratios seed f j) (range_with_len 0 FLOOD_STEPS)) (range_with_len 0 SLOTS)
    (λ j. all_empty (losses_in_step links ratios seed f j) (range_with_len 0 FLOOD_STEPS)
    (λ k. ap (map (loss_of f j k)) (none_kept (λ l. is_drawn ratios seed f j k l.from l.to) links (λ l. none_drawn ratios seed f j k l.from l.to full)))))

-- ratios of a million leave the lines as they are
pub full_ratios : (t : Lines) (ratios : List RatioLine) (seed frames : ℕ) → list_all is_full ratios ≡ true → drawn t ratios seed frames ≡ t
full_ratios t ratios seed frames full =
    ap (λ (ls : List LoseLine). record t { losses = ls })
    (ap (λ (ls : List LoseLine). t.losses ++ ls) (no_losses t.links ratios seed frames full) ∙ append-nil t.losses)

-- tests that agree on the elements of a list keep the same
kept_alike : {X : Type 0} (p q : X → Bool) (has : X → Bool) (xs : List X) → ((x : X) → has x ≡ true → p x ≡ q x)
    → list_all has xs ≡ true → filter p xs ≡ filter q xs
kept_alike p q has [] same all = refl
kept_alike {X} p q has (x ∷ xs) same all =
    let parts = and_parts (has x) (list_all has xs) all in
    ap (λ (b : Bool). cond b (x ∷ filter p xs) (filter p xs)) (same x parts.0)
    ∙ ap (λ (l : List X). cond (q x) (x ∷ l) l) (kept_alike p q has xs same parts.1)

-- each of the links is one of them
are_links : (links more : List LinkLine) → ((u v : ℕ) → list_any (is_link u v) links ≡ true → list_any (is_link u v) more ≡ true)
    → list_all (λ l. list_any (is_link l.from l.to) more) links ≡ true
are_links [] more has = refl
are_links (l ∷ ls) more has =
    let own : list_any (is_link l.from l.to) more ≡ true =
    has l.from l.to (or_left (is_link l.from l.to l) (list_any (is_link l.from l.to) ls) (rw (eq-eqb l.from l.from refl, eq-eqb l.to l.to refl) refl)) in
    rw own (are_links ls more (λ u v is. has u v (or_right (is_link u v l) (list_any (is_link u v) ls) is)))

-- ratios that agree on the links draw the same losses
pub same_losses : (links : List LinkLine) (a b : List RatioLine) (seed frames : ℕ)
    → ((f u v : ℕ) → list_any (is_link u v) links ≡ true → ratio_in a f u v ≡ ratio_in b f u v)
    → drawn_losses links a seed frames ≡ drawn_losses links b seed frames
same_losses links a b seed frames same =
    λ i. flat_map (λ f. flat_map (λ j. flat_map (λ k. map (loss_of f j k) (in_step f j k i)) (range_with_len 0 FLOOD_STEPS)) (range_with_len 0 SLOTS))
    (range_with_len 0 frames)
  where
    in_step : (f j k : ℕ) → filter (λ l. is_drawn a seed f j k l.from l.to) links ≡ filter (λ l. is_drawn b seed f j k l.from l.to) links
    in_step f j k =
        kept_alike (λ (l : LinkLine). is_drawn a seed f j k l.from l.to) (λ (l : LinkLine). is_drawn b seed f j k l.from l.to)
        (λ (l : LinkLine). list_any (is_link l.from l.to) links) links
        (λ l has. ap (λ (o : Option ℕ). option_map_or (λ ratio. not (coin_passes ratio seed (coin_key f j k l.from l.to))) o false) (same f l.from l.to has))
        (are_links links links (λ u v is. is))
