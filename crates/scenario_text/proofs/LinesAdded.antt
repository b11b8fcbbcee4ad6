-- The lines of a script with others added.
use Rattle.std.proofs.Common.{◌≡◌, ℕ, ◌+◌, ◌<◌, ◌≤◌, List, [], ◌∷◌, ◌++◌, Bool, true, false, not, ◌&&◌, ◌==◌, cond}
use Rattle.std.proofs.Common.{length, take, get_or, refl, sym, ◌∙◌, ap, subst, arith, inl, inr, All, true≢false}
use Rattle.std.proofs.lemmas.Bool.{cases_Bool, cases_order, cond-true, cond-false, eq-eqb, eqb-true, ne_eqb}
use Rattle.std.proofs.lemmas.List.{take_more, append_assoc}
use Rattle.std.proofs.lemmas.List.Elements.{All-append, All-cons, All-nil, filter-append}
use Rattle.std.proofs.lemmas.List.Sorted.{All-permutation}
use Rattle.std.specs.Cmp.{nat_cmp_is}
use Rattle.std.specs.List.{AllByRecursion, AllPairs, filter}
use Rattle.std.specs.List.Sorted.{IsPermutation, IsNonDecreasingBy, IsStableByKey, ties}
use Rattle.std.specs.Ordering.{nat_cmp, is_lt}
use Rattle.std.specs.declared.cmp.Ordering.{Ordering}
use Rattle.std.specs.declared.cmp.Ordering.TheVariants.{Less, Equal, Greater}
use Rattle.link_trace.specs.Passes.{Lines}
use Rattle.lwb_base.specs.Profile.{Numbers}
use Rattle.scenario_text.specs.AddedLines.{in_frame, IsMerged, IsWithScript, HasRoom, frame_of_line}
use Rattle.scenario_text.specs.FloodDrafts.{Climbs}
use Rattle.scenario_text.specs.PartsInOrder.{IsInOrder}
use Rattle.bus_rules.specs.States.{payload_of}
use Rattle.scenario_text.specs.ScenarioFacts.{IsScriptLine}
use Rattle.scenario_text.specs.ScenarioParts.{ScenarioParts}
use Rattle.scenario_text.specs.declared.lines.NodeLine.{NodeLine}
use Rattle.scenario_text.specs.declared.lines.RateLine.{RateLine}
use Rattle.bus_rules.specs.declared.act.Act.TheVariants.{On}
use Rattle.scenario_text.specs.declared.script.ScriptLine.{ScriptLine}
use Rattle.scenario_text.proofs.EachPair.{pairs_climb}

-- a line more is copied
pub lines_more : (old all lines : List ScriptLine) (i : ℕ) (x y : ScriptLine) → i < length lines → x ≡ get_or lines i x → y ≡ x
    → all ≡ old ++ take i lines → all ++ y ∷ [] ≡ old ++ take (i + 1) lines
lines_more old all lines i x y below at same is =
    let more : take (i + 1) lines ≡ take i lines ++ x ∷ [] = take_more lines i x below ∙ ap (λ (l : ScriptLine). take i lines ++ l ∷ []) (sym at) in
    ap (λ (l : ScriptLine). all ++ l ∷ []) same ∙ ap (λ (ls : List ScriptLine). ls ++ x ∷ []) is
    ∙ append_assoc old (take i lines) (x ∷ []) ∙ ap (λ (ls : List ScriptLine). old ++ ls) (sym more)

pub all_more : (P : ScriptLine → Type 0) (lines : List ScriptLine) (i : ℕ) (x : ScriptLine) → i < length lines → x ≡ get_or lines i x → P x
    → All P (take i lines) → All P (take (i + 1) lines)
all_more P lines i x below at here all =
    let more : take (i + 1) lines ≡ take i lines ++ x ∷ [] = take_more lines i x below ∙ ap (λ (l : ScriptLine). take i lines ++ l ∷ []) (sym at) in
    subst (All P) (sym more) (All-append P (take i lines) (x ∷ []) all (All-cons P x [] here (All-nil P)))

-- what ties with a line by its frame is of that frame
abbrev by_frame : ScriptLine → ScriptLine → Bool
by_frame a b = is_lt (nat_cmp a.frame b.frame)

tied : (x y : ℕ) → (not (is_lt (nat_cmp x y)) && not (is_lt (nat_cmp y x))) ≡ (y == x)
tied x y = elim (cases_order x y) [
  | inl same ↦
      ap (λ (o : Ordering). not (is_lt o) && not (is_lt (nat_cmp y x))) (sym (nat_cmp_is x y Equal same))
      ∙ ap (λ (o : Ordering). not (is_lt o)) (sym (nat_cmp_is y x Equal (sym same))) ∙ sym (eq-eqb y x (sym same))
  | inr (inl less) ↦
      ap (λ (o : Ordering). not (is_lt o) && not (is_lt (nat_cmp y x))) (sym (nat_cmp_is x y Less less))
      ∙ sym (ne_eqb y x (λ same. omega (arith, less, same)))
  | inr (inr more) ↦
      ap (λ (o : Ordering). not (is_lt o) && not (is_lt (nat_cmp y x))) (sym (nat_cmp_is x y Greater more))
      ∙ ap (λ (o : Ordering). not (is_lt o)) (sym (nat_cmp_is y x Less more)) ∙ sym (ne_eqb y x (λ same. omega (arith, more, same)))
]

filter_alike : (p q : ScriptLine → Bool) (ls : List ScriptLine) → ((l : ScriptLine) → p l ≡ q l) → filter p ls ≡ filter q ls
filter_alike p q [] same = refl
filter_alike p q (l ∷ ls) same =
    ap (λ (b : Bool). cond b (l ∷ filter p ls) (filter p ls)) (same l)
    ∙ ap (λ (xs : List ScriptLine). cond (q l) (l ∷ xs) xs) (filter_alike p q ls same)

abbrev some_line : ℕ → ScriptLine
some_line f = record { frame = f; node = 1; act = On }

tied_in_frame : (f : ℕ) (ls : List ScriptLine) → filter (ties by_frame (some_line f)) ls ≡ in_frame f ls
tied_in_frame f ls = filter_alike (ties by_frame (some_line f)) (λ l. l.frame == f) ls (λ l. tied f l.frame)

-- the lines of both, sorted by frame so that those of one frame keep their order
pub sorted_merged : (old added all : List ScriptLine) → IsNonDecreasingBy frame_of_line all → IsStableByKey frame_of_line nat_cmp (old ++ added) all
    → IsMerged old added all
sorted_merged old added all up stable = record {
  ascends = λ i j d before within. up i j d (omega (arith, before)) within;
  of_frame = λ f.
      sym (tied_in_frame f all) ∙ stable (some_line f) ∙ tied_in_frame f (old ++ added) ∙ filter-append (λ l. l.frame == f) old added;
}

-- there is one such list
abbrev head_or : ScriptLine → List ScriptLine → ScriptLine
head_or d [] = d
head_or d (x ∷ xs) = x

abbrev rest_of : List ScriptLine → List ScriptLine
rest_of [] = []
rest_of (x ∷ xs) = xs

abbrev has_none : List ScriptLine → Bool
has_none [] = true
has_none (x ∷ xs) = false

kept : (x : ScriptLine) (f : ℕ) (xs : List ScriptLine) → x.frame ≡ f → in_frame f (x ∷ xs) ≡ x ∷ in_frame f xs
kept x f xs same = cond-true (x.frame == f) (x ∷ in_frame f xs) (in_frame f xs) (eq-eqb x.frame f same)

left_out : (x : ScriptLine) (f : ℕ) (xs : List ScriptLine) → (x.frame == f) ≡ false → in_frame f (x ∷ xs) ≡ in_frame f xs
left_out x f xs other = cond-false (x.frame == f) (x ∷ in_frame f xs) (in_frame f xs) other

least : (f a : ℕ) (x : ScriptLine) (us ys : List ScriptLine) → in_frame f ys ≡ x ∷ us → AllByRecursion (λ y. a ≤ y.frame) ys → a ≤ f
least f a x us [] is all = absurd (true≢false (ap has_none is))
least f a x us (y ∷ ys) is all = elim (cases_Bool (y.frame == f)) [
  | inl here ↦ let same = eqb-true y.frame f here in let above = all.0 in omega (arith, same, above)
  | inr other ↦ least f a x us ys (sym (left_out y f ys other) ∙ is) all.1
]

one_list : (xs ys : List ScriptLine) → Climbs (λ a b. a.frame ≤ b.frame) xs → Climbs (λ a b. a.frame ≤ b.frame) ys
    → ((f : ℕ) → in_frame f xs ≡ in_frame f ys) → xs ≡ ys
one_list [] [] up vp alike = refl
one_list [] (y ∷ ys) up vp alike = absurd (true≢false (ap has_none (alike y.frame ∙ kept y y.frame ys refl)))
one_list (x ∷ xs) [] up vp alike = absurd (true≢false (ap has_none (sym (alike x.frame) ∙ kept x x.frame xs refl)))
one_list (x ∷ xs) (y ∷ ys) up vp alike =
    let below : y.frame ≤ x.frame =
    least x.frame y.frame x (in_frame x.frame xs) (y ∷ ys) (sym (alike x.frame) ∙ kept x x.frame xs refl) (omega arith, vp.0) in
    let above : x.frame ≤ y.frame =
    least y.frame x.frame y (in_frame y.frame ys) (x ∷ xs) (alike y.frame ∙ kept y y.frame ys refl) (omega arith, up.0) in
    let same : y.frame ≡ x.frame = omega (arith, below, above) in
    let both : x ∷ in_frame x.frame xs ≡ y ∷ in_frame x.frame ys = sym (kept x x.frame xs refl) ∙ alike x.frame ∙ kept y x.frame ys same in
    let first : x ≡ y = ap (head_or x) both in
    let rest : xs ≡ ys = one_list xs ys up.1 vp.1 (λ f. rests_alike f x y xs ys same (ap rest_of both) (alike f)) in
    ap (λ (l : ScriptLine). l ∷ xs) first ∙ ap (λ (ls : List ScriptLine). y ∷ ls) rest
  where
    rests_alike : (f : ℕ) (x y : ScriptLine) (xs ys : List ScriptLine) → y.frame ≡ x.frame → in_frame x.frame xs ≡ in_frame x.frame ys
        → in_frame f (x ∷ xs) ≡ in_frame f (y ∷ ys) → in_frame f xs ≡ in_frame f ys
    rests_alike f x y xs ys same here all = elim (cases_Bool (x.frame == f)) [
      | inl is ↦ subst (λ (g : ℕ). in_frame g xs ≡ in_frame g ys) (eqb-true x.frame f is) here
      | inr other ↦ sym (left_out x f xs other) ∙ all ∙ left_out y f ys (ap (λ (g : ℕ). g == f) same ∙ other)
    ]

pub one_merged : (old added xs ys : List ScriptLine) → IsMerged old added xs → IsMerged old added ys → xs ≡ ys
one_merged old added xs ys a b =
    one_list xs ys (pairs_climb (λ c d. c.frame ≤ d.frame) xs a.ascends) (pairs_climb (λ c d. c.frame ≤ d.frame) ys b.ascends)
    (λ f. a.of_frame f ∙ sym (b.of_frame f))

-- the parts with another script
pub with_lines : ScenarioParts → List ScriptLine → ScenarioParts
with_lines s script = record s { script = script }

pub still_in_order : (s : ScenarioParts) (added script : List ScriptLine) → IsInOrder s → IsPermutation (s.script ++ added) script
    → All (IsScriptLine s) added → AllPairs (λ a b. a.frame ≤ b.frame) script → All (λ l. All (λ b. b < 256) (payload_of l.act)) script
    → HasRoom (record s { script = script }) → IsInOrder (record s { script = script })
still_in_order s added script is shuffled lines ascends bytes room =
    let all : All (IsScriptLine s) script =
    All-permutation (IsScriptLine s) (s.script ++ added) script shuffled (All-append (IsScriptLine s) s.script added is.script lines) in
    record {
      profile = is.profile;
      frames = is.frames;
      sends = is.sends;
      node_count = is.node_count;
      node_frames = is.node_frames;
      nodes = is.nodes;
      nodes_ascend = is.nodes_ascend;
      rates = λ k d within. let r = is.rates k d within in record { known = r.known; tick = r.tick; millionths = r.millionths };
      rates_ascend = is.rates_ascend;
      host_count = is.host_count;
      hosts = is.hosts;
      hosts_differ = is.hosts_differ;
      links = is.links;
      links_ascend = is.links_ascend;
      losses = λ k d within.
          let l = is.losses k d within in (record { in_run = l.0.in_run; in_frame = l.0.in_frame; in_slot = l.0.in_slot }, l.1);
      losses_ascend = is.losses_ascend;
      cuts = λ k d within.
          let l = is.cuts k d within in (record { in_run = l.0.in_run; in_frame = l.0.in_frame; in_slot = l.0.in_slot }, l.1);
      cuts_ascend = is.cuts_ascend;
      captures = λ k d within.
          let l = is.captures k d within in (record { in_run = l.0.in_run; in_frame = l.0.in_frame; in_slot = l.0.in_slot }, l.1);
      captures_ascend = is.captures_ascend;
      script = λ k d within. let l = all k d within in record { in_run = l.in_run; known = l.known; act = l.act };
      script_ascends = ascends;
      payload_bytes = bytes;
      few_lines = (let few = room.lines in omega (arith, few));
      few_boots = room.boots;
    }

-- the scenario with the lines is the one with a list of them all
pub one_with_script : (s : ScenarioParts) (added script : List ScriptLine) (t : ScenarioParts) → IsMerged s.script added script → IsWithScript s added t
    → t ≡ record s { script = script }
one_with_script s added script t merged is =
    is.parts ∙ ap (λ (ls : List ScriptLine). record s { script = ls }) (one_merged s.script added t.script script is.script merged)

pub same_parts : (s : ScenarioParts) (p : Numbers) (f n : ℕ) (ns : List NodeLine) (rs : List RateLine) (hs : List ℕ) (t : Lines) (script : List ScriptLine)
    → p ≡ s.profile → f ≡ s.frames → n ≡ s.sends → ns ≡ s.nodes → rs ≡ s.rates → hs ≡ s.hosts → t ≡ s.trace
    → ◌≡◌ {A = ScenarioParts} (record { profile = p; frames = f; sends = n; nodes = ns; rates = rs; hosts = hs; trace = t; script = script })
    (record s { script = script })
same_parts s p f n ns rs hs t script profile frames sends nodes rates hosts trace = rw (profile, frames, sends, nodes, rates, hosts, trace) refl
