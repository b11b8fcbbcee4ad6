-- One turn more of each loop: the words that it draws, and what it adds.
use Rattle.std.proofs.Common.{◌≡◌, ℕ, ◌+◌, ◌-◌, ◌*◌, ◌%◌, List, [], ◌∷◌, ◌++◌, Bool, true, false, if◌then◌else◌, map, filter, sym, ◌∙◌, ap, arith}
use Rattle.std.proofs.lemmas.List.{append_assoc, append-nil, map-append}
use Rattle.std.proofs.lemmas.List.Sums.{fold-append}
use Rattle.std.specs.List.{fold, flat_map, range_with_len}
use Rattle.std.specs.Prelude.{ℤ, pos, ◌-ℤ◌}
use Rattle.link_trace.specs.Passes.{Lines}
use Rattle.link_trace.specs.declared.lines.LinkLine.{LinkLine}
use Rattle.link_trace.specs.declared.lines.LoseLine.{LoseLine}
use Rattle.rand_pcg.specs.Lcg.{Lcg}
use Rattle.scenario_text.specs.declared.lines.NodeLine.{NodeLine}
use Rattle.scenario_text.specs.declared.lines.RateLine.{RateLine}
use Rattle.scenario_text.specs.declared.script.ScriptLine.{ScriptLine}
use Rattle.scenario_maker.specs.Drawn.{later, drawn_word}
use Rattle.scenario_maker.specs.Made.{node_line, rate_line, with_pair, with_pairs, drawn_loss, with_new_loss, node_puts, made_put_line}
use Rattle.scenario_maker.proofs.LaterWords.{twice_on, word_on}
use Rattle.scenario_maker.proofs.Ranges.{range_more, mapped_more, folded_more, flat_more, filtered_more}

pub steps_to : (a b m : ℕ) (g d e : Lcg) → d ≡ later a g → e ≡ later b d → a + b ≡ m → e ≡ later m g
steps_to a b m g d e here there is = there ∙ ap (later b) here ∙ twice_on a b g ∙ ap (λ (k : ℕ). later k g) is

pub word_at : (a k m : ℕ) (g d : Lcg) → d ≡ later a g → a + k ≡ m → drawn_word d k ≡ drawn_word g m
word_at a k m g d here is = ap (λ (h : Lcg). drawn_word h k) here ∙ word_on a k g ∙ ap (drawn_word g) is

-- an item of a list that is made along a range
pub pushed : {X : Type 0} (f : ℕ → X) (before old new : List X) (x : X) (a k j : ℕ) → old ≡ before ++ map f (range_with_len a k)
    → new ≡ old ++ x ∷ [] → x ≡ f j → a + k ≡ j
    → new ≡ before ++ map f (range_with_len a (k + 1))
pushed {X} f before old new x a k j done added is place =
    added ∙ ap (λ (ys : List X). ys ++ x ∷ []) done ∙ ap (λ (y : X). (before ++ map f (range_with_len a k)) ++ y ∷ []) (is ∙ ap f (sym place))
    ∙ mapped_more f before a k

pub numbered : (old new : List ℕ) (x k : ℕ) → old ≡ range_with_len 1 k → new ≡ old ++ x ∷ [] → x ≡ k + 1 → new ≡ range_with_len 1 (k + 1)
numbered old new x k done added is =
    let place : k + 1 ≡ 1 + k = omega arith in
    added ∙ ap (λ (ys : List ℕ). ys ++ x ∷ []) done ∙ ap (λ (y : ℕ). range_with_len 1 k ++ y ∷ []) (is ∙ place) ∙ sym (range_more 1 k)

pub node_is : (g : Lcg) (k i o : ℕ) → i ≡ k + 1 → o ≡ drawn_word g (2 * k) % 256001 → ◌≡◌ {A = NodeLine} (record { node = i; offset = o }) (node_line g (k + 1))
node_is g k i o number offset =
    let at : ℕ → ℕ → NodeLine = λ i o. record { node = i; offset = o } in
    let place : 2 * k ≡ 2 * (k + 1 - 1) = omega arith in
    ap (λ (i : ℕ). at i o) number ∙ ap (at (k + 1)) (offset ∙ ap (λ (m : ℕ). drawn_word g m % 256001) place)

pub rate_is : (g : Lcg) (k i : ℕ) (z : ℤ) → i ≡ k + 1 → z ≡ pos (drawn_word g (2 * k + 1) % 41) -ℤ pos 20
    → ◌≡◌ {A = RateLine} (record { node = i; from = 0; ppm = z }) (rate_line g (k + 1))
rate_is g k i z number ppm =
    let at : ℕ → ℤ → RateLine = λ i z. record { node = i; from = 0; ppm = z } in
    let place : 2 * k + 1 ≡ 2 * (k + 1 - 1) + 1 = omega arith in
    ap (λ (i : ℕ). at i z) number ∙ ap (at (k + 1)) (ppm ∙ ap (λ (m : ℕ). pos (drawn_word g m % 41) -ℤ pos 20) place)

-- a pair of nodes
pub same_pair : (a b u v : ℕ) → a ≡ u → b ≡ v → ◌≡◌ {A = ℕ × ℕ} (a, b) (u, v)
same_pair a b u v first second = let at : ℕ → ℕ → ℕ × ℕ = λ a b. (a, b) in ap (λ (x : ℕ). at x b) first ∙ ap (at u) second

pub pair_added : (t0 t1 t2 : Lines) (f : ℕ → ℕ × ℕ) (a k j : ℕ) (p : ℕ × ℕ)
    → t1 ≡ record t0 { links = with_pairs t0.links (map f (range_with_len a k)) } → p ≡ f j → a + k ≡ j
    → t2 ≡ record t1 { links = with_pair t1.links p } → t2 ≡ record t0 { links = with_pairs t0.links (map f (range_with_len a (k + 1))) }
pair_added t0 t1 t2 f a k j p done is place added =
    let more : Lines → Lines = λ t. record t { links = with_pair t.links p } in
    let linked : List LinkLine → Lines = λ ls. record t0 { links = ls } in
    added ∙ ap more done ∙ ap linked (ap (with_pair (with_pairs t0.links (map f (range_with_len a k)))) (is ∙ ap f (sym place)) ∙ sym
    (folded_more with_pair t0.links f a k))

-- a lose line
pub loss_on : (g d : Lcg) (n f t : ℕ) → d ≡ later (4 * t) g → drawn_loss d n f 0 ≡ drawn_loss g n f t
loss_on g d n f t here =
    let at : ℕ → ℕ → ℕ → ℕ → LoseLine = λ a b c e. record { frame = f; slot = a % 43; step = b % 12; from = 1 + c % n; to = 1 + e % n } in
    let a = word_at (4 * t) (4 * 0) (4 * t) g d here (omega arith) in
    let b = word_at (4 * t) (4 * 0 + 1) (4 * t + 1) g d here (omega arith) in
    let c = word_at (4 * t) (4 * 0 + 2) (4 * t + 2) g d here (omega arith) in
    let e = word_at (4 * t) (4 * 0 + 3) (4 * t + 3) g d here (omega arith) in
    ap (λ (x : ℕ). at x (drawn_word d (4 * 0 + 1)) (drawn_word d (4 * 0 + 2)) (drawn_word d (4 * 0 + 3))) a
    ∙ ap (λ (x : ℕ). at (drawn_word g (4 * t)) x (drawn_word d (4 * 0 + 2)) (drawn_word d (4 * 0 + 3))) b
    ∙ ap (λ (x : ℕ). at (drawn_word g (4 * t)) (drawn_word g (4 * t + 1)) x (drawn_word d (4 * 0 + 3))) c
    ∙ ap (λ (x : ℕ). at (drawn_word g (4 * t)) (drawn_word g (4 * t + 1)) (drawn_word g (4 * t + 2)) x) e

pub loss_added : (t0 t1 t2 : Lines) (f : ℕ → LoseLine) (k : ℕ) (l : LoseLine)
    → t1 ≡ record t0 { losses = fold with_new_loss t0.losses (map f (range_with_len 0 k)) } → l ≡ f k
    → t2 ≡ record t1 { losses = with_new_loss t1.losses l } → t2 ≡ record t0 { losses = fold with_new_loss t0.losses (map f (range_with_len 0 (k + 1))) }
loss_added t0 t1 t2 f k l done is added =
    let more : Lines → Lines = λ t. record t { losses = with_new_loss t.losses l } in
    let lost : List LoseLine → Lines = λ ls. record t0 { losses = ls } in
    let place : k ≡ 0 + k = omega arith in
    added ∙ ap more done ∙ ap lost (ap (with_new_loss (fold with_new_loss t0.losses (map f (range_with_len 0 k)))) (is ∙ ap f place) ∙ sym
    (folded_more with_new_loss t0.losses f 0 k))

pub losses_added : (t0 t1 t2 : Lines) (f : ℕ → List LoseLine) (k : ℕ) (ls : List LoseLine)
    → t1 ≡ record t0 { losses = fold with_new_loss [] (flat_map f (range_with_len 0 k)) } → ls ≡ f k
    → t2 ≡ record t1 { losses = fold with_new_loss t1.losses ls } → t2 ≡ record t0 { losses = fold with_new_loss [] (flat_map f (range_with_len 0 (k + 1))) }
losses_added t0 t1 t2 f k ls done is added =
    let more : Lines → Lines = λ t. record t { losses = fold with_new_loss t.losses ls } in
    let lost : List LoseLine → Lines = λ ls. record t0 { losses = ls } in
    let place : k ≡ 0 + k = omega arith in
    let so_far = flat_map f (range_with_len 0 k) in
    added ∙ ap more done
    ∙ ap lost (ap (fold with_new_loss (fold with_new_loss [] so_far)) (is ∙ ap f place) ∙ sym (fold-append with_new_loss [] so_far (f (0 + k))) ∙ ap
    (fold with_new_loss []) (sym (flat_more f 0 k)))

-- the lines of a frame
pub frame_added : (f : ℕ → List ScriptLine) (before old new : List ScriptLine) (k : ℕ) → old ≡ before ++ flat_map f (range_with_len 0 k)
    → new ≡ old ++ f k → new ≡ before ++ flat_map f (range_with_len 0 (k + 1))
frame_added f before old new k done added =
    let place : k ≡ 0 + k = omega arith in
    let so_far = flat_map f (range_with_len 0 k) in
    added ∙ ap (λ (ys : List ScriptLine). ys ++ f k) done ∙ ap (λ (j : ℕ). (before ++ so_far) ++ f j) place ∙ append_assoc before so_far (f (0 + k))
    ∙ ap (λ (ys : List ScriptLine). before ++ ys) (sym (flat_more f 0 k))

-- a node that puts, and one that does not
kept_more : (f k : ℕ) (b : Bool) → node_puts f (k + 2) ≡ b
    → filter (node_puts f) (range_with_len 2 (k + 1)) ≡ filter (node_puts f) (range_with_len 2 k) ++ (if b then (k + 2) ∷ [] else [])
kept_more f k b is =
    let place : 2 + k ≡ k + 2 = omega arith in
    let so_far = filter (node_puts f) (range_with_len 2 k) in
    filtered_more (node_puts f) 2 k ∙ ap (λ (j : ℕ). so_far ++ (if node_puts f j then j ∷ [] else [])) place ∙ ap
    (λ (c : Bool). so_far ++ (if c then (k + 2) ∷ [] else [])) is

pub put_added : (f k : ℕ) (before old new : List ScriptLine) (x : ScriptLine) → node_puts f (k + 2) ≡ true
    → old ≡ before ++ map (made_put_line f) (filter (node_puts f) (range_with_len 2 k)) → new ≡ old ++ x ∷ []
    → x ≡ made_put_line f (k + 2) → new ≡ before ++ map (made_put_line f) (filter (node_puts f) (range_with_len 2 (k + 1)))
put_added f k before old new x here done added is =
    let so_far = filter (node_puts f) (range_with_len 2 k) in
    added ∙ ap (λ (ys : List ScriptLine). ys ++ x ∷ []) done ∙ ap (λ (y : ScriptLine). (before ++ map (made_put_line f) so_far) ++ y ∷ []) is
    ∙ append_assoc before (map (made_put_line f) so_far) (made_put_line f (k + 2) ∷ [])
    ∙ ap (λ (ys : List ScriptLine). before ++ ys)
    (sym (map-append (made_put_line f) so_far ((k + 2) ∷ [])) ∙ ap (map (made_put_line f)) (sym (kept_more f k true here)))

pub none_added : (f k : ℕ) (before old new : List ScriptLine) → node_puts f (k + 2) ≡ false
    → old ≡ before ++ map (made_put_line f) (filter (node_puts f) (range_with_len 2 k)) → new ≡ old
    → new ≡ before ++ map (made_put_line f) (filter (node_puts f) (range_with_len 2 (k + 1)))
none_added f k before old new never done same =
    let so_far = filter (node_puts f) (range_with_len 2 k) in
    let longer : filter (node_puts f) (range_with_len 2 (k + 1)) ≡ so_far = kept_more f k false never ∙ append-nil so_far in
    same ∙ done ∙ ap (λ (is : List ℕ). before ++ map (made_put_line f) is) (sym longer)
