-- Who receives, of the stations at places that are looked at one after the other.
use Rattle.std.proofs.Common.{◌≡◌, ◌≢◌, ℕ, suc, ◌-◌, ◌<◌, ◌≤◌, inl, inr, min, List, [], ◌∷◌, ◌++◌, length, get_or, Bool, true, false, ◌==◌, if◌then◌else◌}
use Rattle.std.proofs.Common.{Option, Some, None, option_to_list, filter_map, refl, sym, ◌∙◌, ap, arith, length-append, append-nil, nat_lt, ◌&&◌}
use Rattle.std.proofs.lemmas.Bool.{cond-false, cases_lt, le-ltb, false≢true, true≢false}
use Rattle.std.proofs.lemmas.List.{append_assoc}
use Rattle.std.proofs.lemmas.Nat.Bits.{bit_at-zero, bit_at-lt}
use Rattle.std.specs.Int.{bit_at}
use Rattle.std.specs.List.{cons_option}
use Rattle.lwb_base.specs.declared.limits.TheConstants.{MOST_NODES}
use Rattle.link_trace.specs.Masks.{IsMaskAmong}
use Rattle.link_trace.specs.Passes.{Lines}
use Rattle.radio_model.specs.Meetings.{reception_pair, is_heard}
use Rattle.radio_model.specs.OnAir.{Sending}
use Rattle.radio_model.specs.declared.rivals.Key.{Key}
use Rattle.radio_model.specs.declared.rivals.Rival.{Rival}
use Rattle.radio_model.specs.declared.station.Station.{Station}
use Rattle.radio_model.proofs.RestOfPlaces.{InOrder, next_one, same_filter, bit_cases}

-- a bit of a mask is of one of the nodes
pub of_node : (nodes : List ℕ) (test : ℕ → Bool) (among mask k : ℕ) → IsMaskAmong test nodes among mask → bit_at mask k ≡ 1 → k < length nodes
of_node nodes test among mask k is one = elim (cases_lt k (length nodes)) [
  | inl below ↦ below
  | inr past ↦ absurd (omega (arith, one, is k ∙ none (bit_at among k == 1) (nat_lt k (length nodes)) (test (get_or nodes k 0)) (le-ltb k (length nodes) past)))
]
  where
    none : (a b c : Bool) → b ≡ false → ◌≡◌ {A = ℕ} (if a && (b && c) then 1 else 0) 0
    none false b c is = refl
    none true false c is = refl
    none true true c is = absurd (true≢false is)

-- a place that is reached and not spoiled, and one that is not
pub left_one : (r s : ℕ) → r < 2 → s < 2 → min r (1 - s) ≡ 1 → (r ≡ 1) × (s ≡ 0)
left_one r s r_small s_small is = (omega arith, omega arith)

pub left_none : (r s : ℕ) → r < 2 → s < 2 → min r (1 - s) ≡ 0 → r ≡ 1 → s ≡ 1
left_none r s r_small s_small is one = omega arith

pub left_bits : (a b left k : ℕ) → ((i : ℕ) → bit_at left i ≡ min (bit_at a i) (1 - bit_at b i)) → bit_at left k ≡ 1 → (bit_at a k ≡ 1) × (bit_at b k ≡ 0)
left_bits a b left k bits one = left_one (bit_at a k) (bit_at b k) (bit_at-lt a k) (bit_at-lt b k) (sym (bits k) ∙ one)

-- none is left of the first, so all of it is in the second
pub none_but : (a b left k : ℕ) → ((i : ℕ) → bit_at left i ≡ min (bit_at a i) (1 - bit_at b i)) → left ≡ 0 → bit_at a k ≡ 1 → bit_at b k ≡ 1
none_but a b left k bits none one =
    left_none (bit_at a k) (bit_at b k) (bit_at-lt a k) (bit_at-lt b k) (sym (bits k) ∙ ap (λ (n : ℕ). bit_at n k) none ∙ bit_at-zero k) one

module _ (lines : Lines) (u : ℕ) (x : Sending) (key : Key) (rs : List Rival) where
  -- who receives at a place that is left
  abbrev pub heard_at : ℕ → Station → Option (ℕ × ℕ)
  heard_at rest st = if bit_at rest st.place == 1 then reception_pair lines u x key rs st else None

  at_left : (rest : ℕ) (st : Station) (k : ℕ) → st.place ≡ k → bit_at rest k ≡ 1 → heard_at rest st ≡ reception_pair lines u x key rs st
  at_left rest st k place is = ap (λ (b : ℕ). if b == 1 then reception_pair lines u x key rs st else None) (ap (bit_at rest) place ∙ is)

  at_done : (rest : ℕ) (st : Station) (k : ℕ) → st.place ≡ k → bit_at rest k ≡ 0 → heard_at rest st ≡ None
  at_done rest st k place is = ap (λ (b : ℕ). if b == 1 then reception_pair lines u x key rs st else None) (ap (bit_at rest) place ∙ is)

  at_same : (rest new : ℕ) (st : Station) (k : ℕ) → st.place ≡ k → bit_at new k ≡ bit_at rest k → heard_at rest st ≡ heard_at new st
  at_same rest new st k place is = ap (λ (b : ℕ). if b == 1 then reception_pair lines u x key rs st else None) (ap (bit_at rest) place ∙ sym is
      ∙ ap (bit_at new) (sym place))

  none_heard : (sts : List Station) (d : Station) (n : ℕ) → ((i : ℕ) → i < length sts → heard_at 0 (get_or sts i d) ≡ None) → filter_map (heard_at 0) sts ≡ []
  none_heard [] d n none = refl
  none_heard (st ∷ sts) d n none =
      ap (λ (o : Option (ℕ × ℕ)). cons_option o (filter_map (heard_at 0) sts)) (none 0 (omega arith))
      ∙ none_heard sts d n (λ i below. none (suc i) (omega arith))

  -- none is left
  pub all_heard : (sts : List Station) (d : Station) (hearers : List (ℕ × ℕ)) → hearers ++ filter_map (heard_at 0) sts ≡ hearers
  all_heard sts d hearers =
      ap (λ (l : List (ℕ × ℕ)). hearers ++ l) (none_heard sts d 0 (λ i below. let st = get_or sts i d in at_done 0 st st.place refl
      (bit_at-zero st.place))) ∙ append-nil hearers

  -- all that receive are left
  pub heard_of_left : (sts : List Station) (d : Station) (left : ℕ) → InOrder sts
      → ((k : ℕ) → k < length sts → bit_at left k ≡ 0 → is_heard lines u x key rs (get_or sts k d) ≡ false)
      → filter_map (heard_at left) sts ≡ filter_map (reception_pair lines u x key rs) sts
  heard_of_left sts d left in_order none_else =
      same_filter (heard_at left) (reception_pair lines u x key rs) sts d (λ i below.
      let st = get_or sts i d in
      elim (bit_cases (bit_at left i) (bit_at-lt left i)) [
        | inl none ↦ at_done left st i (in_order i d below) none ∙ sym (cond-false (is_heard lines u x key rs st) _ None (none_else i below none))
        | inr one ↦ at_left left st i (in_order i d below) one
      ])

  -- the lowest of those that are left is the next that may receive
  pub heard_next : (sts : List Station) → InOrder sts → (rest new k : ℕ) (st : Station) → k < length sts → st ≡ get_or sts k st → bit_at rest k ≡ 1
      → ((i : ℕ) → i < k → bit_at rest i ≡ 0) → bit_at new k ≡ 0
      → ((i : ℕ) → i ≢ k → bit_at new i ≡ bit_at rest i) → filter_map (heard_at rest) sts
      ≡ option_to_list (reception_pair lines u x key rs st) ++ filter_map (heard_at new) sts
  heard_next sts in_order rest new k st below at was first now others =
      next_one (heard_at rest) (heard_at new) sts k st below
      (λ i less. at_done rest (get_or sts i st) i (in_order i st (omega arith)) (first i less))
      (λ i less. at_done new (get_or sts i st) i (in_order i st (omega arith)) (others i (λ is. omega (arith, is)) ∙ first i less))
      (at_done new (get_or sts k st) k (in_order k st below) now)
      (λ i more inside. at_same rest new (get_or sts i st) i (in_order i st inside) (others i (λ is. omega (arith, is))))
      ∙ ap (λ (o : Option (ℕ × ℕ)). option_to_list o ++ filter_map (heard_at new) sts)
      (at_left rest (get_or sts k st) k (in_order k st below) was ∙ ap (reception_pair lines u x key rs) (sym at))

-- one more has been looked at
module _ {Y : Type 0} where
  pub pushed : (b : Bool) (y : Y) (new now rest next all : List Y) → new ≡ (if b then now ++ y ∷ [] else now) → next
      ≡ option_to_list (if b then Some y else None) ++ rest → now ++ next ≡ all → new ++ rest ≡ all
  pushed true y new now rest next all adds is so = ap (λ (l : List Y). l ++ rest) adds ∙ append_assoc now (y ∷ []) rest
      ∙ ap (λ (l : List Y). now ++ l) (sym is) ∙ so
  pushed false y new now rest next all adds is so = ap (λ (l : List Y). l ++ rest) adds ∙ ap (λ (l : List Y). now ++ l) (sym is) ∙ so

  pub few_kept : {X : Type 0} (f : X → Option Y) (xs : List X) → length (filter_map f xs) ≤ length xs
  few_kept f [] = omega arith
  few_kept f (x ∷ xs) = one (f x) (filter_map f xs) (length xs) (few_kept f xs)
    where
      one : (o : Option Y) (ys : List Y) (n : ℕ) → length ys ≤ n → length (cons_option o ys) ≤ suc n
      one None ys n few = omega arith
      one (Some y) ys n few = omega arith

  pub room_left : (b : Bool) (y : Y) (now rest next all : List Y) (n : ℕ) → b ≡ true → next ≡ option_to_list (if b then Some y else None) ++ rest
      → now ++ next ≡ all → length all ≤ n → n ≤ MOST_NODES → length now < MOST_NODES
  room_left true y now rest next all n so is whole few most = omega (arith, ap length is, ap length whole, length-append now next)
  room_left false y now rest next all n so is whole few most = absurd (false≢true so)

-- the lowest of the places that are left is looked at, that of station st, and b says whether it hears
pub record LooksAt (lines : Lines) (u : ℕ) (x : Sending) (key : Key) (rs : List Rival) (sts : List Station) (rest new k : ℕ) (st : Station) (b : Bool)
    (hearers : List (ℕ × ℕ)) : Type 0 where
  pub in_order : InOrder sts
  pub below : k < length sts
  pub at : st ≡ get_or sts k st
  pub was : bit_at rest k ≡ 1
  pub first : (i : ℕ) → i < k → bit_at rest i ≡ 0
  pub now : bit_at new k ≡ 0
  pub others : (i : ℕ) → i ≢ k → bit_at new i ≡ bit_at rest i
  pub is : b ≡ is_heard lines u x key rs st
  pub so : hearers ++ filter_map (heard_at lines u x key rs rest) sts ≡ filter_map (reception_pair lines u x key rs) sts

module _ {lines : Lines} {u : ℕ} {x : Sending} {key : Key} {rs : List Rival} {sts : List Station} {rest new k : ℕ} {st : Station} {b : Bool}
    {hearers : List (ℕ × ℕ)} (q : LooksAt lines u x key rs sts rest new k st b hearers) where
  next_is : filter_map (heard_at lines u x key rs rest) sts ≡ option_to_list (if b then Some (st.node, u) else None) ++ filter_map
      (heard_at lines u x key rs new) sts
  next_is =
      heard_next lines u x key rs sts q.in_order rest new k st q.below q.at q.was q.first q.now q.others
      ∙ ap (λ (c : Bool). option_to_list (if c then Some (st.node, u) else None) ++ filter_map (heard_at lines u x key rs new) sts) (sym q.is)

  pub looked_at : (more : List (ℕ × ℕ)) → more ≡ (if b then hearers ++ (st.node, u) ∷ [] else hearers)
      → more ++ filter_map (heard_at lines u x key rs new) sts ≡ filter_map (reception_pair lines u x key rs) sts
  looked_at more adds =
      pushed b (st.node, u) more hearers (filter_map (heard_at lines u x key rs new) sts) (filter_map (heard_at lines u x key rs rest) sts) (filter_map
      (reception_pair lines u x key rs) sts) adds next_is q.so

  pub room_for_it : b ≡ true → length sts ≤ MOST_NODES → length hearers < MOST_NODES
  room_for_it true_is few =
      room_left b (st.node, u) hearers (filter_map (heard_at lines u x key rs new) sts) (filter_map (heard_at lines u x key rs rest) sts) (filter_map
      (reception_pair lines u x key rs) sts) (length sts) true_is next_is q.so
      (few_kept (reception_pair lines u x key rs) sts) few
