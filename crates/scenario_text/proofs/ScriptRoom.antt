-- What lines say where another number of script lines is allowed: the same, if there are no more.
use Rattle.std.proofs.Common.{◌≡◌, ℕ, ◌+◌, ◌≤◌, List, [], ◌∷◌, Bool, true, false, ◌&&◌, Option, Some, None, Result, Ok, Err, IfOk}
use Rattle.std.proofs.Common.{if◌then◌else◌, nat_le, length, refl, sym, ◌∙◌, ap, subst, arith}
use Rattle.std.proofs.Math.Nat.{le_trans}
use Rattle.std.proofs.lemmas.Bool.{and_from, and_parts, and_right, lt-ltb, ltb-true, false≢true}
use Rattle.std.specs.Str.{is_utf8}
use Rattle.text_readers.specs.Faults.{draft_after_lines, in_line, spelled, unless_fault, ◌>>=◌}
use Rattle.text_readers.specs.Reading.{draft_after_line}
use Rattle.text_readers.specs.Words.{words, is_skipped}
use Rattle.text_readers.specs.declared.fault.FaultKind.{FaultKind}
use Rattle.text_readers.specs.declared.fault.FaultKind.TheVariants.{NotUtf8}
use Rattle.text_readers.proofs.AllowedLines.{unless_keeps, spelled_keeps}
use Rattle.text_readers.proofs.LinesRead.{line_keeps, lines_keep, one_line_more}
use Rattle.scenario_text.specs.Network.{Parts, has_script_room, is_id, network_parts, rates_by_node}
use Rattle.scenario_text.specs.ScenarioGrammar.{Scenario, no_scenario, is_frame, line_fault, may_take, with_scenario_line, after_spelled}
use Rattle.scenario_text.specs.ScenarioGrammar.{whole_within, finished_parts}
use Rattle.scenario_text.specs.ScenarioGrammar.{scenario_after_words, scenario_line, scenario_numbers}
use Rattle.scenario_text.specs.declared.network_line.NetworkLine.TheVariants.{Sends, Node, Rate, Link, Pair}
use Rattle.scenario_text.specs.declared.scenario_line.ScenarioLine.{ScenarioLine}
use Rattle.scenario_text.specs.declared.scenario_line.ScenarioLine.TheVariants.{InNetwork, Profile, Contend, Frames, Host, Script, Lose, Cut, Capture}
use Rattle.scenario_text.specs.declared.written_act.WrittenAct.TheVariants.{On, Off, Stream, Leave, Put}
use Rattle.bus_rules.specs.declared.act.Act.TheVariants as act
use Rattle.scenario_text.proofs.LineRuns.{Allowed, allowed, allowed_back}

-- the draft, where so many script lines are allowed
abbrev pub limited : ℕ → Scenario → Scenario
limited m d = record d { network = record d.network { most = m } }

-- how a line counts
record Counts (d e : Scenario) : Type 0 where
  grows : d.network.scripted ≤ e.network.scripted
  few : d.network.scripted ≤ d.network.most → e.network.scripted ≤ e.network.most
  limit : e.network.most ≡ d.network.most

same_count : (d e : Scenario) → e.network.scripted ≡ d.network.scripted → e.network.most ≡ d.network.most → Counts d e
same_count d e count limit = record { grows = omega (arith, count); few = λ few. omega (arith, few, count, limit); limit = limit }

one_more : (d e : Scenario) → has_script_room d.network ≡ true → e.network.scripted ≡ d.network.scripted + 1 → e.network.most ≡ d.network.most → Counts d e
one_more d e room count limit =
    let less = ltb-true d.network.scripted d.network.most room in
    record { grows = omega (arith, count); few = λ few. omega (arith, less, count, limit); limit = limit }

counts : (d : Scenario) (l : ScenarioLine) → Allowed d l → Counts d (with_scenario_line d l)
counts d (InNetwork (Sends x)) a = same_count d _ refl refl
counts d (InNetwork (Node i o)) a = same_count d _ refl refl
counts d (InNetwork (Rate i t slow p)) a = one_more d _ a.room refl refl
counts d (InNetwork (Link u v)) a = same_count d _ refl refl
counts d (InNetwork (Pair u v)) a = same_count d _ refl refl
counts d (Profile p) a = same_count d _ refl refl
counts d (Contend c) a = same_count d _ refl refl
counts d (Frames f) a = same_count d _ refl refl
counts d (Host r i) a = same_count d _ refl refl
counts d (Script f i On) a = one_more d _ (and_parts (has_script_room d.network) (may_take d i act.On) a.room).0 refl refl
counts d (Script f i Off) a = one_more d _ (and_parts (has_script_room d.network) true a.room).0 refl refl
counts d (Script f i (Stream s n)) a = one_more d _ (and_parts (has_script_room d.network) true a.room).0 refl refl
counts d (Script f i (Leave s)) a = one_more d _ (and_parts (has_script_room d.network) true a.room).0 refl refl
counts d (Script f i (Put s (Some p))) a = one_more d _ (and_parts (has_script_room d.network) true a.room).0 refl refl
counts d (Script f i (Put s None)) a = same_count d _ refl refl
counts d (Lose f j k u v) a = one_more d _ a.room refl refl
counts d (Cut f j k i) a = one_more d _ a.room refl refl
counts d (Capture f j k u v) a = one_more d _ a.room refl refl

-- the limit changes nothing else
same_line : (m : ℕ) (d : Scenario) (l : ScenarioLine) → with_scenario_line (limited m d) l ≡ limited m (with_scenario_line d l)
same_line m d (InNetwork (Sends x)) = refl
same_line m d (InNetwork (Node i o)) = refl
same_line m d (InNetwork (Rate i t slow p)) = refl
same_line m d (InNetwork (Link u v)) = refl
same_line m d (InNetwork (Pair u v)) = refl
same_line m d (Profile p) = refl
same_line m d (Contend c) = refl
same_line m d (Frames f) = refl
same_line m d (Host r i) = refl
same_line m d (Script f i On) = refl
same_line m d (Script f i Off) = refl
same_line m d (Script f i (Stream s n)) = refl
same_line m d (Script f i (Leave s)) = refl
same_line m d (Script f i (Put s (Some p))) = refl
same_line m d (Script f i (Put s None)) = refl
same_line m d (Lose f j k u v) = refl
same_line m d (Cut f j k i) = refl
same_line m d (Capture f j k u v) = refl

module _ (m : ℕ) (d : Scenario) where
  room_for : d.network.scripted + 1 ≤ m → has_script_room (limited m d).network ≡ true
  room_for few = lt-ltb d.network.scripted m (omega (arith, few))

  also : (b : Bool) → (has_script_room d.network && b) ≡ true → d.network.scripted + 1 ≤ m → (has_script_room (limited m d).network && b) ≡ true
  also b room few = and_from (has_script_room (limited m d).network) b (room_for few) (and_parts (has_script_room d.network) b room).1

  -- with room for it a line is allowed there too
  allowed_there : (l : ScenarioLine) → Allowed d l → (with_scenario_line d l).network.scripted ≤ m → Allowed (limited m d) l
  allowed_there (InNetwork (Sends x)) a few = record { range = a.range; known = a.known; order = a.order; fresh = a.fresh; room = a.room }
  allowed_there (InNetwork (Node i o)) a few = record { range = a.range; known = a.known; order = a.order; fresh = a.fresh; room = a.room }
  allowed_there (InNetwork (Rate i t slow p)) a few =
      record { range = a.range; known = a.known; order = a.order; fresh = a.fresh; room = room_for few }
  allowed_there (InNetwork (Link u v)) a few = record { range = a.range; known = a.known; order = a.order; fresh = a.fresh; room = a.room }
  allowed_there (InNetwork (Pair u v)) a few = record { range = a.range; known = a.known; order = a.order; fresh = a.fresh; room = a.room }
  allowed_there (Profile p) a few = record { range = a.range; known = a.known; order = a.order; fresh = a.fresh; room = a.room }
  allowed_there (Contend c) a few = record { range = a.range; known = a.known; order = a.order; fresh = a.fresh; room = a.room }
  allowed_there (Frames f) a few = record { range = a.range; known = a.known; order = a.order; fresh = a.fresh; room = a.room }
  allowed_there (Host r i) a few = record { range = a.range; known = a.known; order = a.order; fresh = a.fresh; room = a.room }
  allowed_there (Script f i On) a few =
      record { range = a.range; known = a.known; order = a.order; fresh = a.fresh; room = also (may_take d i act.On) a.room few }
  allowed_there (Script f i Off) a few = record { range = a.range; known = a.known; order = a.order; fresh = a.fresh; room = also true a.room few }
  allowed_there (Script f i (Stream s n)) a few =
      record { range = a.range; known = a.known; order = a.order; fresh = a.fresh; room = also true a.room few }
  allowed_there (Script f i (Leave s)) a few =
      record { range = a.range; known = a.known; order = a.order; fresh = a.fresh; room = also true a.room few }
  allowed_there (Script f i (Put s (Some p))) a few =
      record { range = a.range; known = a.known; order = a.order; fresh = a.fresh; room = also true a.room few }
  allowed_there (Script f i (Put s None)) a few =
      let range = and_parts (is_frame d.frames f && is_id i) (nat_le s 3 && false) a.range in
      absurd (false≢true (sym (and_right (nat_le s 3) false refl) ∙ range.1))
  allowed_there (Lose f j k u v) a few = record { range = a.range; known = a.known; order = a.order; fresh = a.fresh; room = room_for few }
  allowed_there (Cut f j k i) a few = record { range = a.range; known = a.known; order = a.order; fresh = a.fresh; room = room_for few }
  allowed_there (Capture f j k u v) a few = record { range = a.range; known = a.known; order = a.order; fresh = a.fresh; room = room_for few }

-- nor at the end
pub whole_there : (n m : ℕ) (d : Scenario) → whole_within n (limited m d) ≡ whole_within n d
whole_there n m d = by_parts d.network.sends d.frames
  where
    by_parts : (o f : Option ℕ) → finished_parts n (limited m d) (network_parts (limited m d).network o) f ≡ finished_parts n d (network_parts d.network o) f
    by_parts None f = refl
    by_parts (Some k) f = by_two (nat_le 2 (length d.network.nodes)) f
      where
        some : Parts
        some = record { sends = k; nodes = d.network.nodes; rates = rates_by_node d.network.nodes d.network.rates; trace = d.network.trace }

        by_two : (b : Bool) (f : Option ℕ)
            → finished_parts n (limited m d) (if b then Some some else None) f ≡ finished_parts n d (if b then Some some else None) f
        by_two false f = refl
        by_two true None = refl
        by_two true (Some g) = refl

-- a line of words: how it counts, and that with room for it the same comes of it there
words_count : (d : Scenario) (ws : List (List ℕ)) → IfOk (scenario_after_words d ws) (Counts d)
unfolding scenario_after_words
words_count d ws =
    spelled_keeps (Counts d) (scenario_line ws) (λ (l : ScenarioLine). scenario_numbers l ws) (after_spelled d)
    (λ l is. unless_keeps (Counts d) (line_fault d l) (with_scenario_line d l) (λ none. counts d l (allowed d l none)))

words_there : (m : ℕ) (d e : Scenario) (ws : List (List ℕ)) → scenario_after_words d ws ≡ Ok e → e.network.scripted ≤ m
    → scenario_after_words (limited m d) ws ≡ Ok (limited m e)
unfolding scenario_after_words
words_there m d e ws is few = by_line (spelled (scenario_line ws) (λ l. scenario_numbers l ws)) is
  where
    by_line : (r : Result ScenarioLine FaultKind) → (r >>= after_spelled d) ≡ Ok e → (r >>= after_spelled (limited m d)) ≡ Ok (limited m e)
    by_line (Err k) is = cc
    by_line (Ok l) is = by_fault (line_fault d l) refl is
      where
        by_fault : (o : Option FaultKind) → line_fault d l ≡ o → unless_fault o (with_scenario_line d l) ≡ Ok e
            → unless_fault (line_fault (limited m d) l) (with_scenario_line (limited m d) l) ≡ Ok (limited m e)
        by_fault (Some k) fault is = cc
        by_fault None fault is =
            let same : with_scenario_line d l ≡ e = subst (λ (r : Result Scenario FaultKind). IfOk r (λ x. with_scenario_line d l ≡ x)) is refl in
            let short = subst (λ (x : Scenario). x.network.scripted ≤ m) (sym same) few in
            let there = allowed_back (limited m d) l (allowed_there m d l (allowed d l fault) short) in
            ap (λ (o : Option FaultKind). unless_fault o (with_scenario_line (limited m d) l)) there
            ∙ ap Ok (same_line m d l ∙ ap (limited m) same)

-- a line
line_there : (m : ℕ) (d e : Scenario) (line : List ℕ) → draft_after_line scenario_after_words d line ≡ Ok e → e.network.scripted ≤ m
    → draft_after_line scenario_after_words (limited m d) line ≡ Ok (limited m e)
unfolding draft_after_line
line_there m d e line is few = by_skip (is_skipped (words line)) (is_utf8 line) is
  where
    by_skip : (b c : Bool) → (if b then Ok d else if c then scenario_after_words d (words line) else Err NotUtf8) ≡ Ok e
        → (if b then Ok (limited m d) else if c then scenario_after_words (limited m d) (words line) else Err NotUtf8) ≡ Ok (limited m e)
    by_skip true c is = ap (λ (x : Scenario). Ok (limited m x)) (subst (λ (r : Result Scenario FaultKind). IfOk r (λ x. d ≡ x)) is refl)
    by_skip false true is = words_there m d e (words line) is few
    by_skip false false is = cc

-- what all lines keep
abbrev Keeps : (Scenario → Type 0) → Type 0
Keeps P = (d : Scenario) (line : List ℕ) → P d → IfOk (draft_after_line scenario_after_words d line) P

line_counts : (P : Scenario → Type 0) → ((d e : Scenario) → Counts d e → P d → P e) → Keeps P
line_counts P keeps d line holds =
    line_keeps P scenario_after_words d line holds (both (scenario_after_words d (words line)) (words_count d (words line)))
  where
    both : (r : Result Scenario FaultKind) → IfOk r (Counts d) → IfOk r P
    both (Err k) counts = tt
    both (Ok e) counts = keeps d e counts holds

abbrev pub after_all : ℕ → Scenario → List (List ℕ) → Result Scenario (ℕ × FaultKind)
after_all n d ls = draft_after_lines (draft_after_line scenario_after_words) n d ls

lines_grow : (n : ℕ) (d e : Scenario) (ls : List (List ℕ)) → after_all n d ls ≡ Ok e → d.network.scripted ≤ e.network.scripted
lines_grow n d e ls is =
    lines_keep (λ x. d.network.scripted ≤ x.network.scripted) (draft_after_line scenario_after_words)
    (line_counts (λ x. d.network.scripted ≤ x.network.scripted) (λ x y counts up. le_trans up counts.grows)) n d e ls (omega arith) is

-- there are no more script lines than are allowed
record IsWithin (m : ℕ) (d : Scenario) : Type 0 where
  few : d.network.scripted ≤ d.network.most
  limit : d.network.most ≡ m

pub few_script_lines : (m : ℕ) (e : Scenario) (ls : List (List ℕ)) → after_all 1 (no_scenario m) ls ≡ Ok e → e.network.scripted ≤ m
few_script_lines m e ls is =
    let end : IsWithin m e =
    lines_keep (IsWithin m) (draft_after_line scenario_after_words)
    (line_counts (IsWithin m) (λ x y counts holds. record { few = counts.few holds.few; limit = counts.limit ∙ holds.limit })) 1 (no_scenario m) e ls
    (record { few = omega arith; limit = refl }) is in
    subst (λ (n : ℕ). e.network.scripted ≤ n) end.limit end.few

-- the lines say the same where so many are allowed
lines_there : (m n : ℕ) (d e : Scenario) (ls : List (List ℕ)) → after_all n d ls ≡ Ok e → e.network.scripted ≤ m
    → after_all n (limited m d) ls ≡ Ok (limited m e)
lines_there m n d e [] is few = ap (λ (x : Scenario). Ok (limited m x)) (subst (λ (r : Result Scenario (ℕ × FaultKind)). IfOk r (λ x. d ≡ x)) is refl)
lines_there m n d e (line ∷ ls) is few =
    by_line (draft_after_line scenario_after_words d line) refl (λ x rest. lines_there m (n + 1) x e ls rest few) is
  where
    by_line : (r : Result Scenario FaultKind) → draft_after_line scenario_after_words d line ≡ r
        → ((x : Scenario) → after_all (n + 1) x ls ≡ Ok e → after_all (n + 1) (limited m x) ls ≡ Ok (limited m e))
        → (in_line n r >>= (λ x. after_all (n + 1) x ls)) ≡ Ok e → after_all n (limited m d) (line ∷ ls) ≡ Ok (limited m e)
    by_line (Err k) read rest is = cc
    by_line (Ok x) read rest is =
        let short = le_trans (lines_grow (n + 1) x e ls is) few in
        one_line_more (draft_after_line scenario_after_words) n (limited m d) (limited m x) line ls (line_there m d x line read short) ∙ rest x is

pub said_there : (a b : ℕ) (e : Scenario) (ls : List (List ℕ)) → after_all 1 (no_scenario a) ls ≡ Ok e → e.network.scripted ≤ b
    → after_all 1 (no_scenario b) ls ≡ Ok (limited b e)
said_there a b e ls is few = lines_there b 1 (no_scenario a) e ls is few
