-- The canonical lines of the script, and of losses, cuts and captures, are allowed one after another.
use Rattle.std.proofs.Common.{◌≡◌, ℕ, zero, suc, ◌+◌, ◌-◌, ◌≤◌, List, [], ◌∷◌, ◌++◌, true, ◌&&◌, ◌==◌, nat_lt, nat_le, Option}
use Rattle.std.proofs.Common.{Some, None, IfSome, map, length, refl, sym, ◌∙◌, ap, subst, arith, inl, inr}
use Rattle.std.proofs.lemmas.Bool.{cond_both, and_from, and_parts, lt-ltb, le-leb, leb-true, ltb-true}
use Rattle.std.proofs.lemmas.List.{length_push, length-append}
use Rattle.std.specs.Prelude.{slice_get}
use Rattle.std.specs.List.{AllByRecursion}
use Rattle.std.specs.Option.{option_map_or}
use Rattle.std.specs.declared.cmp.Ordering.TheVariants.{Less}
use Rattle.scenario_text.specs.declared.limits.TheConstants.{BUS_SCRIPT_LINES}
use Rattle.lwb_base.specs.Profile.{Numbers, IsProfile}
use Rattle.link_trace.proofs.Orders.{tells_loss, tells_cut, tells_capture}
use Rattle.link_trace.specs.Order.{by_loss, by_cut, by_capture}
use Rattle.link_trace.specs.Passes.{Lines, is_loss, is_cut, is_capture}
use Rattle.link_trace.specs.declared.lines.LoseLine.{LoseLine}
use Rattle.link_trace.specs.declared.lines.CutLine.{CutLine}
use Rattle.link_trace.specs.declared.lines.CaptureLine.{CaptureLine}
use Rattle.scenario_text.specs.FloodDrafts.{Climbs}
use Rattle.scenario_text.specs.Network.{is_id, are_ends}
use Rattle.scenario_text.specs.Canonical.{script_words, act_words, loss_words, cut_words, capture_words}
use Rattle.scenario_text.specs.ScriptGrammar.{act_of}
use Rattle.scenario_text.specs.ScenarioGrammar.{Scenario, greatest_slot_of, is_step, last_script_line, may_take, with_scenario_line}
use Rattle.scenario_text.specs.ScenarioParts.{ScenarioParts}
use Rattle.scenario_text.specs.declared.lines.RateLine.{RateLine}
use Rattle.scenario_text.specs.declared.script.ScriptLine.{ScriptLine}
use Rattle.bus_rules.specs.declared.act.Act.{Act}
use Rattle.bus_rules.specs.declared.act.Act.TheVariants.{On, Off, Declare, Leave, Put}
use Rattle.scenario_text.proofs.NumbersBack.{payload_back}
use Rattle.scenario_text.proofs.LinesSaid.{Says, Small, says_on, says_off, says_stream, says_leave, says_put, says_lose, says_cut, says_capture}
use Rattle.scenario_text.proofs.LineRuns.{Step, step, Allowed, Goes, goes_list, middle, climbs_before, with_line_last, none_among}
use Rattle.scenario_text.proofs.CanonicalFacts.{Power, no_power, after_act, can_boot, power_after, Boots, mid, written, said_act, said_loss}
use Rattle.scenario_text.proofs.CanonicalFacts.{said_cut, said_capture, Fits, HasBytes, FitsAct, judge, KeepsRules}
use Rattle.scenario_text.proofs.CanonicalGoes.{small_id, small_ends, of_links}

frame_small : (s : ScenarioParts) (f : ℕ) → KeepsRules s → nat_lt f s.frames ≡ true → Small f
frame_small s f is below = let lt = ltb-true f s.frames below in let few = is.frames.1 in omega (arith, lt, few)

-- the script
boots_at : (w : Power) (xs : List ScriptLine) (l : ScriptLine) (ys : List ScriptLine) → Boots w (xs ++ l ∷ ys) → can_boot (power_after w xs) l.node l.act ≡ true
boots_at w [] l ys boots = boots.0
boots_at w (x ∷ xs) l ys boots = boots_at (after_act w x.node x.act) xs l ys boots.1

pub power_more : (w : Power) (xs : List ScriptLine) (l : ScriptLine) → power_after w (xs ++ l ∷ []) ≡ after_act (power_after w xs) l.node l.act
power_more w [] l = refl
power_more w (x ∷ xs) l = power_more (after_act w x.node x.act) xs l

found_holds : (P : ScriptLine → Type 0) (ls : List ScriptLine) (k : ℕ) → AllByRecursion P ls → IfSome (slice_get ls k) P
found_holds P [] k all = tt
found_holds P (l ∷ ls) zero all = all.0
found_holds P (l ∷ ls) (suc k) all = found_holds P ls k all.1

not_later : (f : ℕ) (ls : List ScriptLine) → AllByRecursion (λ l. l.frame ≤ f) ls → option_map_or (λ l. nat_le l.frame f) (last_script_line ls) true ≡ true
not_later f ls all = by_last (last_script_line ls) (found_holds (λ l. l.frame ≤ f) ls (length ls - 1) all)
  where
    by_last : (o : Option ScriptLine) → IfSome o (λ l. l.frame ≤ f) → option_map_or (λ l. nat_le l.frame f) o true ≡ true
    by_last None holds = refl
    by_last (Some l) holds = le-leb l.frame f holds

same_room : (s : ScenarioParts) (hs : List ℕ) (rs : List RateLine) (t : Lines) (ls : List ScriptLine) (w : Power) (n i : ℕ) (a : Act)
    → option_map_or (may_take (mid s s.nodes rs hs t ls w n) i) (act_of (written a)) true ≡ can_boot w i a
same_room s hs rs t ls w n i On = refl
same_room s hs rs t ls w n i Off = refl
same_room s hs rs t ls w n i (Declare x y) = refl
same_room s hs rs t ls w n i (Leave x) = refl
same_room s hs rs t ls w n i (Put x p) = refl

act_allowed : (s : ScenarioParts) (hs : List ℕ) (rs : List RateLine) (t : Lines) (ls : List ScriptLine) (w : Power) (n f i : ℕ) (a : Act)
    → Fits (judge s) (said_act f i a) → option_map_or (λ l. nat_le l.frame f) (last_script_line ls) true ≡ true → nat_lt n BUS_SCRIPT_LINES ≡ true
    → can_boot w i a ≡ true
    → Allowed (mid s s.nodes rs hs t ls w n) (said_act f i a)
act_allowed s hs rs t ls w n f i a fits order room boot = record {
  range = fits.range;
  known = fits.known;
  order = order;
  fresh = refl;
  room = and_from _ _ room (same_room s hs rs t ls w n i a ∙ boot);
}

act_next : (s : ScenarioParts) (hs : List ℕ) (rs : List RateLine) (t : Lines) (ls : List ScriptLine) (w : Power) (n f i : ℕ) (a : Act)
    → with_scenario_line (mid s s.nodes rs hs t ls w n) (said_act f i a)
    ≡ mid s s.nodes rs hs t (ls ++ record { frame = f; node = i; act = a } ∷ []) (after_act w i a) (n + 1)
act_next s hs rs t ls w n f i On = refl
act_next s hs rs t ls w n f i Off = refl
act_next s hs rs t ls w n f i (Declare x y) = refl
act_next s hs rs t ls w n f i (Leave x) = refl
act_next s hs rs t ls w n f i (Put x p) = refl

payload_bound : (p : Numbers) → IsProfile p → p.payload_max ≤ 96
payload_bound p (inl is) = subst (λ (q : Numbers). q.payload_max ≤ 96) (sym is) (omega arith)
payload_bound p (inr is) = subst (λ (q : Numbers). q.payload_max ≤ 96) (sym is.0) (omega arith)

act_says : (s : ScenarioParts) (f i : ℕ) (a : Act) → KeepsRules s → Fits (judge s) (said_act f i a) → HasBytes a → Says (act_words f i a) (said_act f i a)
act_says s f i On is fits bytes =
    let r = and_parts (nat_lt f s.frames && is_id i) true fits.range in
    let p = and_parts (nat_lt f s.frames) (is_id i) r.0 in
    says_on f i (frame_small s f is p.0) (small_id i p.1)
act_says s f i Off is fits bytes =
    let r = and_parts (nat_lt f s.frames && is_id i) true fits.range in
    let p = and_parts (nat_lt f s.frames) (is_id i) r.0 in
    says_off f i (frame_small s f is p.0) (small_id i p.1)
act_says s f i (Declare x y) is fits bytes =
    let r = and_parts (nat_lt f s.frames && is_id i) (nat_le x 3 && nat_le 1 y && nat_le y 120) fits.range in
    let o = and_parts (nat_le x 3 && nat_le 1 y) (nat_le y 120) r.1 in
    let q = and_parts (nat_le x 3) (nat_le 1 y) o.0 in
    let p = and_parts (nat_lt f s.frames) (is_id i) r.0 in
    let stream = leb-true x 3 q.0 in
    let interval = leb-true y 120 o.1 in
    says_stream f i x y (frame_small s f is p.0) (small_id i p.1) (omega (arith, stream)) (omega (arith, interval))
act_says s f i (Leave x) is fits bytes =
    let r = and_parts (nat_lt f s.frames && is_id i) (nat_le x 3) fits.range in
    let p = and_parts (nat_lt f s.frames) (is_id i) r.0 in
    let stream = leb-true x 3 r.1 in
    says_leave f i x (frame_small s f is p.0) (small_id i p.1) (omega (arith, stream))
act_says s f i (Put x b) is fits bytes =
    let r = and_parts (nat_lt f s.frames && is_id i) (nat_le x 3 && nat_le (length b) s.profile.payload_max) fits.range in
    let o = and_parts (nat_le x 3) (nat_le (length b) s.profile.payload_max) r.1 in
    let p = and_parts (nat_lt f s.frames) (is_id i) r.0 in
    let stream = leb-true x 3 o.0 in
    let long = leb-true (length b) s.profile.payload_max o.1 in
    let most = payload_bound s.profile is.profile in
    says_put f i x b (frame_small s f is p.0) (small_id i p.1) (omega (arith, stream)) (payload_back b bytes (omega (arith, long, most)))

abbrev pub with_script : ScenarioParts → List ScriptLine → Scenario
with_script s ls = mid s s.nodes s.rates s.hosts (of_links s.trace.links) ls (power_after no_power ls) (length s.rates + length ls)

step_script : (s : ScenarioParts) → KeepsRules s → (ls : List ScriptLine) (l : ScriptLine) (ms : List ScriptLine) → ls ++ l ∷ ms ≡ s.script
    → Step (with_script s ls) (script_words l) (with_script s (ls ++ l ∷ []))
step_script s is ls l ms split =
    let at = middle (FitsAct (judge s)) ls l ms (subst (AllByRecursion (FitsAct (judge s))) (sym split) is.script) in
    let before = climbs_before (λ a b. a.frame ≤ b.frame) ls l ms (subst (Climbs (λ a b. a.frame ≤ b.frame)) (sym split) is.script_climbs) in
    let boots : Boots no_power (ls ++ l ∷ ms) = subst (Boots no_power) (sym split) is.boots in
    let long : length ls + suc (length ms) ≡ length s.script = sym (length-append ls (l ∷ ms)) ∙ ap length split in
    let few = is.scripted in
    let w : Power = power_after no_power ls in
    let n : ℕ = length s.rates + length ls in
    let t : Lines = of_links s.trace.links in
    let count : n + 1 ≡ length s.rates + length (ls ++ l ∷ []) = omega (arith, length_push ls l) in
    step (with_script s ls) (script_words l) (said_act l.frame l.node l.act) (with_script s (ls ++ l ∷ []))
    (act_says s l.frame l.node l.act is at.fits at.bytes)
    (act_allowed s s.hosts s.rates t ls w n l.frame l.node l.act at.fits (not_later l.frame ls before)
    (lt-ltb n BUS_SCRIPT_LINES (omega (arith, long, few))) (boots_at no_power ls l ms boots))
    (act_next s s.hosts s.rates t ls w n l.frame l.node l.act
    ∙ ap (λ (x : Power). mid s s.nodes s.rates s.hosts t (ls ++ l ∷ []) x (n + 1)) (sym (power_more no_power ls l))
    ∙ ap (λ (m : ℕ). mid s s.nodes s.rates s.hosts t (ls ++ l ∷ []) (power_after no_power (ls ++ l ∷ [])) m) count)

pub goes_script : (s : ScenarioParts) → KeepsRules s → Goes (with_script s []) (map script_words s.script) (with_script s s.script)
goes_script s is = goes_list script_words (with_script s) s.script (step_script s is) [] s.script refl

-- losses
last_slot_small : (p : Numbers) → greatest_slot_of p ≤ 45
last_slot_small p = cond_both (p.contend == 0) 42 45 (λ (n : ℕ). n ≤ 45) (λ none. omega arith) (λ some. omega arith)

small_step : (s : ScenarioParts) (f j k : ℕ) → KeepsRules s → is_step (judge s) f j k ≡ true → Small f × (Small j × Small k)
small_step s f j k is step =
    let o = and_parts (nat_lt f s.frames && nat_le j (greatest_slot_of s.profile)) (nat_le k 11) step in
    let p = and_parts (nat_lt f s.frames) (nat_le j (greatest_slot_of s.profile)) o.0 in
    let slot = leb-true j (greatest_slot_of s.profile) p.1 in
    let most = last_slot_small s.profile in
    let few = leb-true k 11 o.1 in
    (frame_small s f is p.0, (omega (arith, slot, most), omega (arith, few)))

abbrev full : ScenarioParts → Lines → ℕ → Scenario
full s t n = mid s s.nodes s.rates s.hosts t s.script (power_after no_power s.script) n

abbrev pub with_losses : ScenarioParts → List LoseLine → Scenario
with_losses s ls = full s (record { links = s.trace.links; losses = ls; cuts = []; captures = [] }) (length s.rates + length s.script + length ls)

step_loss : (s : ScenarioParts) → KeepsRules s → (ls : List LoseLine) (l : LoseLine) (ms : List LoseLine) → ls ++ l ∷ ms ≡ s.trace.losses
    → Step (with_losses s ls) (loss_words l) (with_losses s (ls ++ l ∷ []))
step_loss s is ls l ms split =
    let fits = middle (λ (x : LoseLine). Fits (judge s) (said_loss x)) ls l ms
    (subst (AllByRecursion (λ (x : LoseLine). Fits (judge s) (said_loss x))) (sym split) is.losses) in
    let before = climbs_before (λ a b. by_loss a b ≡ Less) ls l ms (subst (Climbs (λ a b. by_loss a b ≡ Less)) (sym split) is.losses_climb) in
    let range = and_parts (is_step (judge s) l.frame l.slot l.step) (are_ends l.from l.to) fits.range in
    let small = small_step s l.frame l.slot l.step is range.0 in
    let ends = small_ends l.from l.to range.1 in
    let long : length ls + suc (length ms) ≡ length s.trace.losses = sym (length-append ls (l ∷ ms)) ∙ ap length split in
    let few = is.scripted in
    let n : ℕ = length s.rates + length s.script + length ls in
    let count : n + 1 ≡ length s.rates + length s.script + length (ls ++ l ∷ []) = omega (arith, length_push ls l) in
    step (with_losses s ls) (loss_words l) (said_loss l) (with_losses s (ls ++ l ∷ []))
    (says_lose l.frame l.slot l.step l.from l.to small.0 small.1.0 small.1.1 ends.0 ends.1)
    (record {
      range = fits.range;
      known = fits.known;
      order = refl;
      fresh = none_among by_loss (is_loss l.frame l.slot l.step l.from l.to) l ls (tells_loss l.frame l.slot l.step l.from l.to) before;
      room = lt-ltb n BUS_SCRIPT_LINES (omega (arith, long, few));
    })
    (ap (λ (x : List LoseLine). full s (record { links = s.trace.links; losses = x; cuts = []; captures = [] }) (n + 1)) (with_line_last by_loss l ls before)
    ∙ ap (full s (record { links = s.trace.links; losses = ls ++ l ∷ []; cuts = []; captures = [] })) count)

pub goes_losses : (s : ScenarioParts) → KeepsRules s → Goes (with_losses s []) (map loss_words s.trace.losses) (with_losses s s.trace.losses)
goes_losses s is = goes_list loss_words (with_losses s) s.trace.losses (step_loss s is) [] s.trace.losses refl

-- cuts
abbrev pub with_cuts : ScenarioParts → List CutLine → Scenario
with_cuts s ls = full s (record { links = s.trace.links; losses = s.trace.losses; cuts = ls; captures = [] })
    (length s.rates + length s.script + length s.trace.losses + length ls)

step_cut : (s : ScenarioParts) → KeepsRules s → (ls : List CutLine) (l : CutLine) (ms : List CutLine) → ls ++ l ∷ ms ≡ s.trace.cuts
    → Step (with_cuts s ls) (cut_words l) (with_cuts s (ls ++ l ∷ []))
step_cut s is ls l ms split =
    let fits = middle (λ (x : CutLine). Fits (judge s) (said_cut x)) ls l ms
    (subst (AllByRecursion (λ (x : CutLine). Fits (judge s) (said_cut x))) (sym split) is.cuts) in
    let before = climbs_before (λ a b. by_cut a b ≡ Less) ls l ms (subst (Climbs (λ a b. by_cut a b ≡ Less)) (sym split) is.cuts_climb) in
    let range = and_parts (is_step (judge s) l.frame l.slot l.step) (is_id l.node) fits.range in
    let small = small_step s l.frame l.slot l.step is range.0 in
    let long : length ls + suc (length ms) ≡ length s.trace.cuts = sym (length-append ls (l ∷ ms)) ∙ ap length split in
    let few = is.scripted in
    let n : ℕ = length s.rates + length s.script + length s.trace.losses + length ls in
    let count : n + 1 ≡ length s.rates + length s.script + length s.trace.losses + length (ls ++ l ∷ []) = omega (arith, length_push ls l) in
    step (with_cuts s ls) (cut_words l) (said_cut l) (with_cuts s (ls ++ l ∷ []))
    (says_cut l.frame l.slot l.step l.node small.0 small.1.0 small.1.1 (small_id l.node range.1))
    (record {
      range = fits.range;
      known = fits.known;
      order = refl;
      fresh = none_among by_cut (is_cut l.frame l.slot l.step l.node) l ls (tells_cut l.frame l.slot l.step l.node) before;
      room = lt-ltb n BUS_SCRIPT_LINES (omega (arith, long, few));
    })
    (ap (λ (x : List CutLine). full s (record { links = s.trace.links; losses = s.trace.losses; cuts = x; captures = [] }) (n + 1))
    (with_line_last by_cut l ls before)
    ∙ ap (full s (record { links = s.trace.links; losses = s.trace.losses; cuts = ls ++ l ∷ []; captures = [] })) count)

pub goes_cuts : (s : ScenarioParts) → KeepsRules s → Goes (with_cuts s []) (map cut_words s.trace.cuts) (with_cuts s s.trace.cuts)
goes_cuts s is = goes_list cut_words (with_cuts s) s.trace.cuts (step_cut s is) [] s.trace.cuts refl

-- captures
abbrev pub with_captures : ScenarioParts → List CaptureLine → Scenario
with_captures s ls =
    full s (record { links = s.trace.links; losses = s.trace.losses; cuts = s.trace.cuts; captures = ls })
    (length s.rates + length s.script + length s.trace.losses + length s.trace.cuts + length ls)

step_capture : (s : ScenarioParts) → KeepsRules s → (ls : List CaptureLine) (l : CaptureLine) (ms : List CaptureLine) → ls ++ l ∷ ms ≡ s.trace.captures
    → Step (with_captures s ls) (capture_words l) (with_captures s (ls ++ l ∷ []))
step_capture s is ls l ms split =
    let fits = middle (λ (x : CaptureLine). Fits (judge s) (said_capture x)) ls l ms
    (subst (AllByRecursion (λ (x : CaptureLine). Fits (judge s) (said_capture x))) (sym split) is.captures) in
    let before = climbs_before (λ a b. by_capture a b ≡ Less) ls l ms (subst (Climbs (λ a b. by_capture a b ≡ Less)) (sym split) is.captures_climb) in
    let range = and_parts (is_step (judge s) l.frame l.slot l.step) (are_ends l.at l.from) fits.range in
    let small = small_step s l.frame l.slot l.step is range.0 in
    let ends = small_ends l.at l.from range.1 in
    let long : length ls + suc (length ms) ≡ length s.trace.captures = sym (length-append ls (l ∷ ms)) ∙ ap length split in
    let few = is.scripted in
    let n : ℕ = length s.rates + length s.script + length s.trace.losses + length s.trace.cuts + length ls in
    let count : n + 1 ≡ length s.rates + length s.script + length s.trace.losses + length s.trace.cuts + length (ls ++ l ∷ []) =
    omega (arith, length_push ls l) in
    step (with_captures s ls) (capture_words l) (said_capture l) (with_captures s (ls ++ l ∷ []))
    (says_capture l.frame l.slot l.step l.at l.from small.0 small.1.0 small.1.1 ends.0 ends.1)
    (record {
      range = fits.range;
      known = fits.known;
      order = refl;
      fresh = none_among by_capture (is_capture l.frame l.slot l.step l.at) l ls (tells_capture l.frame l.slot l.step l.at l.from) before;
      room = lt-ltb n BUS_SCRIPT_LINES (omega (arith, long, few));
    })
    (ap (λ (x : List CaptureLine). full s (record { links = s.trace.links; losses = s.trace.losses; cuts = s.trace.cuts; captures = x })
    (n + 1)) (with_line_last by_capture l ls before)
    ∙ ap (full s (record { links = s.trace.links; losses = s.trace.losses; cuts = s.trace.cuts; captures = ls ++ l ∷ [] })) count)

pub goes_captures : (s : ScenarioParts) → KeepsRules s → Goes (with_captures s []) (map capture_words s.trace.captures) (with_captures s s.trace.captures)
goes_captures s is = goes_list capture_words (with_captures s) s.trace.captures (step_capture s is) [] s.trace.captures refl
