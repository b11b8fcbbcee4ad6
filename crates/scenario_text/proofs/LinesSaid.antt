-- What the words of each canonical line say.
use Rattle.std.proofs.Common.{◌≡◌, ℕ, ◌<◌, ◌≤◌, ℤ, List, [], ◌∷◌, ◌++◌, Bool, true, false, if◌then◌else◌, ◌&&◌, nat_lt, nat_le}
use Rattle.std.proofs.Common.{length, Option, Some, None, Ok, Err, Result, map, codes, decimal, refl, ◌∙◌, ap}
use Rattle.std.proofs.lemmas.Bool.{cond-true, cond-false, and_from, and_parts, leb-true, ltb-true}
use Rattle.std.specs.Fmt.{signed_decimal}
use Rattle.std.specs.Int.RustNames.{unsigned_abs}
use Rattle.std.specs.List.{AllByRecursion, list_all, join_with_byte}
use Rattle.std.specs.Str.{is_utf8}
use Rattle.text_readers.specs.Words.{is_skipped, is_number, number, has_minus, magnitude}
use Rattle.text_readers.specs.Faults.{unless_fault, spelled, ◌>>=◌}
use Rattle.text_readers.specs.Reading.{draft_after_line}
use Rattle.scenario_text.specs.Network.{network_line}
use Rattle.text_writers.specs.HexWords.{payload_word}
use Rattle.scenario_text.specs.Payloads.{is_payload, payload}
use Rattle.text_writers.specs.Lines.{numbered}
use Rattle.scenario_text.specs.ScriptGrammar.{script_line, step_line, put_line}
use Rattle.scenario_text.specs.ScenarioGrammar.{Scenario, scenario_line, scenario_numbers}
use Rattle.scenario_text.specs.ScenarioGrammar.{line_fault, with_scenario_line, after_spelled, scenario_after_words}
use Rattle.text_readers.specs.declared.fault.FaultKind.{FaultKind}
use Rattle.text_readers.specs.declared.fault.FaultKind.TheVariants.{NotUtf8, BadNumber}
use Rattle.scenario_text.specs.declared.network_line.NetworkLine.TheVariants.{Sends, Node, Rate, Link}
use Rattle.scenario_text.specs.declared.scenario_line.ScenarioLine.{ScenarioLine}
use Rattle.scenario_text.specs.declared.scenario_line.ScenarioLine.TheVariants.{InNetwork, Profile, Contend, Frames, Host, Script}
use Rattle.scenario_text.specs.declared.scenario_line.ScenarioLine.TheVariants.{Lose, Cut, Capture}
use Rattle.scenario_text.specs.declared.written_act.WrittenAct.TheVariants.{On, Off, Stream, Leave, Put}
use Rattle.scenario_text.proofs.TextBack.{IsGlyph, IsWord, words_back, line_is_text}
use Rattle.scenario_text.proofs.NumbersBack.{is_number_back, number_back, decimal_word, signed_back, ReadsPayload}

-- the words are those of the line
pub record Says (ws : List (List ℕ)) (l : ScenarioLine) : Type 0 where
  pub are_words : AllByRecursion IsWord ws
  pub unskipped : is_skipped ws ≡ false
  pub line : scenario_line ws ≡ Some l
  pub right : scenario_numbers l ws ≡ true

-- after a line of such words that is allowed
pub said : (d : Scenario) (ws : List (List ℕ)) (l : ScenarioLine) → Says ws l → line_fault d l ≡ None
    → draft_after_line scenario_after_words d (join_with_byte 32 ws) ≡ Ok (with_scenario_line d l)
unfolding draft_after_line scenario_after_words
said d ws l says none =
    let text = join_with_byte 32 ws in
    let right : ScenarioLine → Bool = λ m. scenario_numbers m ws in
    ap (λ (vs : List (List ℕ)). if is_skipped vs then Ok d else if is_utf8 text then scenario_after_words d vs else Err NotUtf8)
    (words_back ws says.are_words)
    ∙ cond-false (is_skipped ws) (Ok d) (if is_utf8 text then scenario_after_words d ws else Err NotUtf8) says.unskipped
    ∙ cond-true (is_utf8 text) (scenario_after_words d ws) (Err NotUtf8) (line_is_text ws says.are_words)
    ∙ ap (λ (o : Option ScenarioLine). spelled o right >>= after_spelled d) says.line
    ∙ ap (λ (r : Result ScenarioLine FaultKind). r >>= after_spelled d) (cond-true (right l) (Ok l) (Err BadNumber) says.right)
    ∙ ap (λ (o : Option FaultKind). unless_fault o (with_scenario_line d l)) none

abbrev pub Small : ℕ → Type 0
Small n = n < 10000000000000

are_numbers : (ns : List ℕ) → AllByRecursion Small ns → list_all is_number (map decimal ns) ≡ true
are_numbers [] all = refl
are_numbers (n ∷ ns) all = and_from _ _ (is_number_back n all.0) (are_numbers ns all.1)

number_words : (ns : List ℕ) → AllByRecursion Small ns → AllByRecursion IsWord (map decimal ns)
number_words [] all = tt
number_words (n ∷ ns) all = (decimal_word n all.0, number_words ns all.1)

abbrev is_glyph : ℕ → Bool
is_glyph b = nat_le 33 b && nat_le b 126

all_glyphs : (w : List ℕ) → list_all is_glyph w ≡ true → AllByRecursion IsGlyph w
all_glyphs [] all = tt
all_glyphs (b ∷ bs) all =
    let both = and_parts (is_glyph b) (list_all is_glyph bs) all in
    let glyph = and_parts (nat_le 33 b) (nat_le b 126) both.0 in
    ((leb-true 33 b glyph.0, leb-true b 126 glyph.1), all_glyphs bs both.1)

-- a word, as its letters show
letters : (w : List ℕ) → (nat_lt 0 (length w) && list_all is_glyph w) ≡ true → IsWord w
letters w is =
    let both = and_parts (nat_lt 0 (length w)) (list_all is_glyph w) is in
    (ltb-true 0 (length w) both.0, all_glyphs w both.1)

-- a first word and numbers
with_numbers : (word : List ℕ) (ns : List ℕ) (l : ScenarioLine) → IsWord word → AllByRecursion Small ns → is_skipped (numbered word ns) ≡ false
    → scenario_line (numbered word ns) ≡ Some l → scenario_numbers l (numbered word ns) ≡ list_all is_number (map decimal ns)
    → Says (numbered word ns) l
with_numbers word ns l is small unskipped line numbers = record {
  are_words = (is, number_words ns small);
  unskipped = unskipped;
  line = line;
  right = numbers ∙ are_numbers ns small;
}

one : (L : ℕ → ScenarioLine) (a : ℕ) → Small a → ◌≡◌ {A = Option ScenarioLine} (Some (L (number (decimal a)))) (Some (L a))
one L a s = ap (λ (x : ℕ). Some (L x)) (number_back a s)

two : (L : ℕ → ℕ → ScenarioLine) (a b : ℕ) → Small a → Small b
    → ◌≡◌ {A = Option ScenarioLine} (Some (L (number (decimal a)) (number (decimal b)))) (Some (L a b))
two L a b s t = one (λ x. L x (number (decimal b))) a s ∙ one (L a) b t

three : (L : ℕ → ℕ → ℕ → ScenarioLine) (a b c : ℕ) → Small a → Small b → Small c
    → ◌≡◌ {A = Option ScenarioLine} (Some (L (number (decimal a)) (number (decimal b)) (number (decimal c)))) (Some (L a b c))
three L a b c s t u = one (λ x. L x (number (decimal b)) (number (decimal c))) a s ∙ two (L a) b c t u

four : (L : ℕ → ℕ → ℕ → ℕ → ScenarioLine) (a b c d : ℕ) → Small a → Small b → Small c → Small d
    → ◌≡◌ {A = Option ScenarioLine} (Some (L (number (decimal a)) (number (decimal b)) (number (decimal c)) (number (decimal d)))) (Some (L a b c d))
four L a b c d s t u v = one (λ x. L x (number (decimal b)) (number (decimal c)) (number (decimal d))) a s ∙ three (L a) b c d t u v

five : (L : ℕ → ℕ → ℕ → ℕ → ℕ → ScenarioLine) (a b c d e : ℕ) → Small a → Small b → Small c → Small d → Small e
    → ◌≡◌ {A = Option ScenarioLine}
    (Some (L (number (decimal a)) (number (decimal b)) (number (decimal c)) (number (decimal d)) (number (decimal e))))
    (Some (L a b c d e))
five L a b c d e s t u v w = one (λ x. L x (number (decimal b)) (number (decimal c)) (number (decimal d)) (number (decimal e))) a s ∙ four (L a) b c d e t u v w

pub says_profile : (a : ℕ) → Small a → Says (numbered (codes "profile") (a ∷ [])) (Profile a)
unfolding scenario_line script_line step_line put_line
says_profile a sa =
    with_numbers (codes "profile") (a ∷ []) (Profile a) (letters (codes "profile") refl) (sa, tt) refl
    (one (λ x0. Profile x0) a sa) refl

pub says_contend : (a : ℕ) → Small a → Says (numbered (codes "contend") (a ∷ [])) (Contend a)
unfolding scenario_line script_line step_line put_line
says_contend a sa =
    with_numbers (codes "contend") (a ∷ []) (Contend a) (letters (codes "contend") refl) (sa, tt) refl
    (one (λ x0. Contend x0) a sa) refl

pub says_frames : (a : ℕ) → Small a → Says (numbered (codes "frames") (a ∷ [])) (Frames a)
unfolding scenario_line script_line step_line put_line
says_frames a sa =
    with_numbers (codes "frames") (a ∷ []) (Frames a) (letters (codes "frames") refl) (sa, tt) refl
    (one (λ x0. Frames x0) a sa) refl

pub says_sends : (a : ℕ) → Small a → Says (numbered (codes "sends") (a ∷ [])) (InNetwork (Sends a))
unfolding scenario_line script_line step_line put_line network_line
says_sends a sa =
    with_numbers (codes "sends") (a ∷ []) (InNetwork (Sends a)) (letters (codes "sends") refl) (sa, tt) refl
    (one (λ x0. InNetwork (Sends x0)) a sa) refl

pub says_node : (a b : ℕ) → Small a → Small b → Says (numbered (codes "node") (a ∷ b ∷ [])) (InNetwork (Node a b))
unfolding scenario_line script_line step_line put_line network_line
says_node a b sa sb =
    with_numbers (codes "node") (a ∷ b ∷ []) (InNetwork (Node a b)) (letters (codes "node") refl) (sa, (sb, tt)) refl
    (two (λ x0 x1. InNetwork (Node x0 x1)) a b sa sb) refl

pub says_host : (a b : ℕ) → Small a → Small b → Says (numbered (codes "host") (a ∷ b ∷ [])) (Host a b)
unfolding scenario_line script_line step_line put_line
says_host a b sa sb =
    with_numbers (codes "host") (a ∷ b ∷ []) (Host a b) (letters (codes "host") refl) (sa, (sb, tt)) refl
    (two (λ x0 x1. Host x0 x1) a b sa sb) refl

pub says_link : (a b : ℕ) → Small a → Small b → Says (numbered (codes "link") (a ∷ b ∷ [])) (InNetwork (Link a b))
unfolding scenario_line script_line step_line put_line network_line
says_link a b sa sb =
    with_numbers (codes "link") (a ∷ b ∷ []) (InNetwork (Link a b)) (letters (codes "link") refl) (sa, (sb, tt)) refl
    (two (λ x0 x1. InNetwork (Link x0 x1)) a b sa sb) refl

pub says_on : (a b : ℕ) → Small a → Small b → Says (numbered (codes "on") (a ∷ b ∷ [])) (Script a b On)
unfolding scenario_line script_line step_line put_line
says_on a b sa sb =
    with_numbers (codes "on") (a ∷ b ∷ []) (Script a b On) (letters (codes "on") refl) (sa, (sb, tt)) refl
    (two (λ x0 x1. Script x0 x1 On) a b sa sb) refl

pub says_off : (a b : ℕ) → Small a → Small b → Says (numbered (codes "off") (a ∷ b ∷ [])) (Script a b Off)
unfolding scenario_line script_line step_line put_line
says_off a b sa sb =
    with_numbers (codes "off") (a ∷ b ∷ []) (Script a b Off) (letters (codes "off") refl) (sa, (sb, tt)) refl
    (two (λ x0 x1. Script x0 x1 Off) a b sa sb) refl

pub says_stream : (a b c d : ℕ) → Small a → Small b → Small c → Small d
    → Says (numbered (codes "stream") (a ∷ b ∷ c ∷ d ∷ [])) (Script a b (Stream c d))
unfolding scenario_line script_line step_line put_line
says_stream a b c d sa sb sc sd =
    with_numbers (codes "stream") (a ∷ b ∷ c ∷ d ∷ []) (Script a b (Stream c d)) (letters (codes "stream") refl) (sa, (sb, (sc, (sd, tt)))) refl
    (four (λ x0 x1 x2 x3. Script x0 x1 (Stream x2 x3)) a b c d sa sb sc sd) refl

pub says_leave : (a b c : ℕ) → Small a → Small b → Small c → Says (numbered (codes "leave") (a ∷ b ∷ c ∷ [])) (Script a b (Leave c))
unfolding scenario_line script_line step_line put_line
says_leave a b c sa sb sc =
    with_numbers (codes "leave") (a ∷ b ∷ c ∷ []) (Script a b (Leave c)) (letters (codes "leave") refl) (sa, (sb, (sc, tt))) refl
    (three (λ x0 x1 x2. Script x0 x1 (Leave x2)) a b c sa sb sc) refl

pub says_lose : (a b c d e : ℕ) → Small a → Small b → Small c → Small d → Small e → Says (numbered (codes "lose") (a ∷ b ∷ c ∷ d ∷ e ∷ [])) (Lose a b c d e)
unfolding scenario_line script_line step_line put_line
says_lose a b c d e sa sb sc sd se =
    with_numbers (codes "lose") (a ∷ b ∷ c ∷ d ∷ e ∷ []) (Lose a b c d e) (letters (codes "lose") refl) (sa, (sb, (sc, (sd, (se, tt))))) refl
    (five (λ x0 x1 x2 x3 x4. Lose x0 x1 x2 x3 x4) a b c d e sa sb sc sd se) refl

pub says_cut : (a b c d : ℕ) → Small a → Small b → Small c → Small d → Says (numbered (codes "cut") (a ∷ b ∷ c ∷ d ∷ [])) (Cut a b c d)
unfolding scenario_line script_line step_line put_line
says_cut a b c d sa sb sc sd =
    with_numbers (codes "cut") (a ∷ b ∷ c ∷ d ∷ []) (Cut a b c d) (letters (codes "cut") refl) (sa, (sb, (sc, (sd, tt)))) refl
    (four (λ x0 x1 x2 x3. Cut x0 x1 x2 x3) a b c d sa sb sc sd) refl

pub says_capture : (a b c d e : ℕ) → Small a → Small b → Small c → Small d → Small e
    → Says (numbered (codes "capture") (a ∷ b ∷ c ∷ d ∷ e ∷ [])) (Capture a b c d e)
unfolding scenario_line script_line step_line put_line
says_capture a b c d e sa sb sc sd se =
    with_numbers (codes "capture") (a ∷ b ∷ c ∷ d ∷ e ∷ []) (Capture a b c d e) (letters (codes "capture") refl) (sa, (sb, (sc, (sd, (se, tt))))) refl
    (five (λ x0 x1 x2 x3 x4. Capture x0 x1 x2 x3 x4) a b c d e sa sb sc sd se) refl

-- a rate's millionths may have a `-`
pub says_rate : (i t : ℕ) (z : ℤ) → Small i → Small t → unsigned_abs z ≤ 20
    → Says (numbered (codes "rate") (i ∷ t ∷ []) ++ signed_decimal z ∷ [])
    (InNetwork (Rate i t (has_minus (signed_decimal z)) (number (magnitude (signed_decimal z)))))
unfolding scenario_line script_line step_line put_line network_line
says_rate i t z si st few =
    let w : List ℕ = signed_decimal z in
    let reads = signed_back z few in
    record {
      are_words = (letters (codes "rate") refl, (decimal_word i si, (decimal_word t st, (reads.is_word, tt))));
      unskipped = refl;
      line = two (λ x y. InNetwork (Rate x y (has_minus w) (number (magnitude w)))) i t si st;
      right = and_from _ _ (and_from _ _ (is_number_back i si) (is_number_back t st)) reads.right;
    }

-- the last word of a `put` is a payload
pub says_put : (f i s : ℕ) (p : List ℕ) → Small f → Small i → Small s → ReadsPayload p (payload_word p)
    → Says (numbered (codes "put") (f ∷ i ∷ s ∷ []) ++ payload_word p ∷ []) (Script f i (Put s (Some p)))
unfolding scenario_line script_line step_line put_line
says_put f i s p sf si ss reads =
    let w : List ℕ = payload_word p in
    record {
      are_words = (letters (codes "put") refl, (decimal_word f sf, (decimal_word i si, (decimal_word s ss, (reads.is_word, tt)))));
      unskipped = refl;
      line = cond-true (is_payload w) (Some (Script (number (decimal f)) (number (decimal i)) (Put (number (decimal s)) (payload w)))) None reads.right
          ∙ ap (λ (o : Option (List ℕ)). Some (Script (number (decimal f)) (number (decimal i)) (Put (number (decimal s)) o))) reads.back
          ∙ three (λ x y z. Script x y (Put z (Some p))) f i s sf si ss;
      right = and_from _ _ (and_from _ _ (is_number_back f sf) (is_number_back i si)) (is_number_back s ss);
    }
