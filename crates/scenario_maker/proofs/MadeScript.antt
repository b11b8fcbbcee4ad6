-- The script of a made scenario: its lines are in range, by frame, and few.
use Rattle.std.proofs.Common.{◌≡◌, ℕ, zero, suc, ◌+◌, ◌-◌, ◌*◌, ◌/◌, ◌%◌, ◌<◌, ◌≤◌, List, [], ◌∷◌, ◌++◌, Bool, true, false}
use Rattle.std.proofs.Common.{◌&&◌, ◌==◌, nat_le, if◌then◌else◌, map, filter, length, All, refl, ◌∙◌, ap, arith}
use Rattle.std.proofs.lemmas.Bool.{cond_both, eqb-true, eqb-false}
use Rattle.std.proofs.lemmas.List.{length-append, length-map, append_assoc}
use Rattle.std.proofs.lemmas.List.Elements.{All-nil, All-cons, All-map, All-filter, All-append, All-weaker}
use Rattle.std.proofs.lemmas.List.FromFn.{length-map-range_with_len}
use Rattle.std.specs.List.{AllPairs, flat_map, range_with_len}
use Rattle.lwb_base.specs.declared.limits.TheConstants.{MOST_FRAMES}
use Rattle.rand_pcg.specs.Lcg.{Lcg}
use Rattle.scenario_text.specs.FloodParts.{knows}
use Rattle.bus_rules.specs.States.{payload_of}
use Rattle.scenario_text.specs.ScenarioFacts.{IsScriptLine, turned, turned_by}
use Rattle.scenario_text.specs.ScenarioParts.{ScenarioParts}
use Rattle.bus_rules.specs.declared.act.Act.TheVariants.{Off}
use Rattle.scenario_text.specs.declared.script.ScriptLine.{ScriptLine}
use Rattle.scenario_text.proofs.OrderedExample.{no_more_boots_than_lines}
use Rattle.scenario_text.proofs.BootsTold.{turned_over}
use Rattle.scenario_maker.specs.Made.{all_nodes, later_nodes, on_line, stream_line, off_lines, node_puts, made_put_line, put_lines, frame_lines, script}
use Rattle.scenario_maker.proofs.Ranges.{all_range, all_flat, pairs_append, pairs_flat, few_flat}

-- what is true of the lines of a frame where it is true of its off line and of its puts
pub of_frame : (P : ScriptLine → Type 0) (n frames f : ℕ) → P (record { frame = f; node = 1; act = Off })
    → ((i : ℕ) → 2 ≤ i → i < 2 + (n - 1) → P (made_put_line f i)) → All P (frame_lines n frames f)
of_frame P n frames f off each =
    All-append P (off_lines frames f) (put_lines n f)
    (cond_both (nat_le 40 frames && (f == frames / 2)) (record { frame = f; node = 1; act = Off } ∷ []) [] (All P)
    (λ is. All-cons P (record { frame = f; node = 1; act = Off }) [] off (All-nil P)) (λ not. All-nil P))
    (All-map P (made_put_line f) (filter (node_puts f) (later_nodes n))
    (All-filter (node_puts f) (λ i. P (made_put_line f i)) (later_nodes n) (all_range (λ i. P (made_put_line f i)) 2 (n - 1) each)))

-- and of the whole script
pub of_script : (P : ScriptLine → Type 0) (g : Lcg) (n frames : ℕ) → ((i : ℕ) → 1 ≤ i → i < 1 + n → P (on_line i))
    → ((i : ℕ) → 2 ≤ i → i < 2 + (n - 1) → P (stream_line g i))
    → ((f : ℕ) → f < frames → P (record { frame = f; node = 1; act = Off })) → ((f i : ℕ) → f < frames → 2 ≤ i → i < 2 + (n - 1) → P (made_put_line f i))
    → All P (script g n frames)
of_script P g n frames on stream off put =
    All-append P (map on_line (all_nodes n) ++ map (stream_line g) (later_nodes n)) (flat_map (frame_lines n frames) (range_with_len 0 frames))
    (All-append P (map on_line (all_nodes n)) (map (stream_line g) (later_nodes n))
    (All-map P on_line (all_nodes n) (all_range (λ i. P (on_line i)) 1 n on))
    (All-map P (stream_line g) (later_nodes n) (all_range (λ i. P (stream_line g i)) 2 (n - 1) stream)))
    (all_flat P (frame_lines n frames) 0 frames (λ f low high. of_frame P n frames f (off f (omega (arith, high)))
    (λ i two last. put f i (omega (arith, high)) two last)))

pub lines_in_range : (s : ScenarioParts) (g : Lcg) (n frames : ℕ) → 2 ≤ n → 1 ≤ frames → s.frames ≡ frames → 32 ≤ s.profile.payload_max
    → ((i : ℕ) → 1 ≤ i → i ≤ n → knows s.nodes i ≡ true)
    → All (IsScriptLine s) (script g n frames)
lines_in_range s g n frames two some is room known =
    of_script (IsScriptLine s) g n frames
    (λ i low high. record { in_run = omega (arith, is, some); known = known i low (omega (arith, high)); act = tt })
    (λ i low high. record {
      in_run = omega (arith, is, some);
      known = known i (omega (arith, low)) (omega (arith, high, two));
      act =
          (omega arith, omega arith, omega arith);
    })
    (λ f inside. record { in_run = omega (arith, is, inside); known = known 1 (omega arith) (omega (arith, two)); act = tt })
    (λ f i inside low high. record {
      in_run = omega (arith, is, inside);
      known = known i (omega (arith, low)) (omega (arith, high, two));
      act =
          (omega arith, omega (arith, room));
    })

pub bytes_in_range : (g : Lcg) (n frames : ℕ) → frames ≤ MOST_FRAMES → All (λ l. All (λ b. b < 256) (payload_of l.act)) (script g n frames)
bytes_in_range g n frames few =
    let none : All (λ b. b < 256) [] = All-nil (λ b. b < 256) in
    of_script (λ l. All (λ b. b < 256) (payload_of l.act)) g n frames (λ i low high. none) (λ i low high. none) (λ f inside. none)
    (λ f i inside low high.
    All-cons (λ b. b < 256) (f / 256) (f % 256 ∷ []) (omega (arith, few, inside)) (All-cons (λ b. b < 256) (f % 256) [] (omega arith) none))

-- the lines are by frame
abbrev before : ScriptLine → ScriptLine → Type 0
before a b = a.frame ≤ b.frame

all_of_frame : (n frames f : ℕ) → All (λ l. l.frame ≡ f) (frame_lines n frames f)
all_of_frame n frames f = of_frame (λ l. l.frame ≡ f) n frames f refl (λ i low high. refl)

across : (n frames i j : ℕ) → i ≤ j → All (λ x. All (before x) (frame_lines n frames j)) (frame_lines n frames i)
across n frames i j upto =
    All-weaker (λ x. x.frame ≡ i) (λ x. All (before x) (frame_lines n frames j))
    (λ x first. All-weaker (λ y. y.frame ≡ j) (before x) (λ y second. omega (arith, first, second, upto)) (frame_lines n frames j) (all_of_frame n frames j))
    (frame_lines n frames i) (all_of_frame n frames i)

in_one_frame : (n frames f : ℕ) → AllPairs before (frame_lines n frames f)
in_one_frame n frames f i j d less inside =
    let all = all_of_frame n frames f in
    omega (arith, all i d (omega (arith, less, inside)), all j d inside)

-- all lines of the first frame
opening : Lcg → ℕ → List ScriptLine
opening g n = map on_line (all_nodes n) ++ map (stream_line g) (later_nodes n)

all_first : (g : Lcg) (n : ℕ) → All (λ l. l.frame ≡ 0) (opening g n)
unfolding opening
all_first g n =
    All-append (λ l. l.frame ≡ 0) (map on_line (all_nodes n)) (map (stream_line g) (later_nodes n))
    (All-map (λ l. l.frame ≡ 0) on_line (all_nodes n) (all_range (λ i. (on_line i).frame ≡ 0) 1 n (λ i low high. refl)))
    (All-map (λ l. l.frame ≡ 0) (stream_line g) (later_nodes n) (all_range (λ i. (stream_line g i).frame ≡ 0) 2 (n - 1) (λ i low high. refl)))

pub script_ascends : (g : Lcg) (n frames : ℕ) → AllPairs (λ a b. a.frame ≤ b.frame) (script g n frames)
unfolding opening
script_ascends g n frames =
    let rest = flat_map (frame_lines n frames) (range_with_len 0 frames) in
    pairs_append before (opening g n) rest
    (λ i j d less inside. omega (arith, all_first g n i d (omega (arith, less, inside))))
    (pairs_flat before (frame_lines n frames) (in_one_frame n frames) (λ i j less. across n frames i j (omega (arith, less))) 0 frames)
    (All-weaker (λ x. x.frame ≡ 0) (λ x. All (before x) rest) (λ x first k d inside. omega (arith, first)) (opening g n) (all_first g n))

-- of nodes that follow one another each fourth puts
puts_in_turn : (f a m : ℕ) → length (filter (node_puts f) (range_with_len a m)) + (f + a + 3) / 4 ≡ (f + a + m + 3) / 4
puts_in_turn f a zero = omega arith
puts_in_turn f a (suc m) =
    let rest = puts_in_turn f (a + 1) m in
    cond_both (node_puts f a) (a ∷ filter (node_puts f) (range_with_len (a + 1) m)) (filter (node_puts f) (range_with_len (a + 1) m))
    (λ (xs : List ℕ). length xs + (f + a + 3) / 4 ≡ (f + a + suc m + 3) / 4)
    (λ is. omega (arith, rest, eqb-true ((f + a) % 4) 0 is))
    (λ not. let other = eqb-false ((f + a) % 4) 0 not in omega (arith, rest, other))

few_in_frame : (n frames f : ℕ) → length (frame_lines n frames f) ≤ (n + 6) / 4
few_in_frame n frames f =
    let off : length (off_lines frames f) ≤ 1 =
    cond_both (nat_le 40 frames && (f == frames / 2)) (record { frame = f; node = 1; act = Off } ∷ []) [] (λ (xs : List ScriptLine). length xs ≤ 1)
    (λ is. omega arith) (λ not. omega arith) in
    omega (
      arith,
      off,
      puts_in_turn f 2 (n - 1),
      length-map (filter (node_puts f) (later_nodes n)) (made_put_line f),
      length-append (off_lines frames f) (put_lines n f),
    )

pub few_in_script : (g : Lcg) (n frames : ℕ) → length (script g n frames) ≤ n + n + frames * ((n + 6) / 4)
unfolding opening
few_in_script g n frames =
    let rest = flat_map (frame_lines n frames) (range_with_len 0 frames) in
    omega (
      arith,
      length-append (opening g n) rest,
      length-append (map on_line (all_nodes n)) (map (stream_line g) (later_nodes n)),
      length-map-range_with_len on_line 1 n,
      length-map-range_with_len (stream_line g) 2 (n - 1),
      few_flat (frame_lines n frames) ((n + 6) / 4) 0 frames (few_in_frame n frames),
    )

-- only the first lines boot
abbrev boots_not : ScriptLine → Type 0
boots_not l = (v : ℕ) (t : Bool × ℕ) → (if l.node == v then turned_by l.act t else t).1 ≡ t.1

boots_stay : (v : ℕ) (t : Bool × ℕ) (ls : List ScriptLine) → All boots_not ls → (turned v t ls).1 ≡ t.1
boots_stay v t [] all = refl
boots_stay v t (l ∷ ls) all =
    boots_stay v (if l.node == v then turned_by l.act t else t) ls (λ k d inside. all (suc k) d (omega (arith, inside))) ∙ all 0 l (omega arith) v t

same_count : (b : Bool) (s t : Bool × ℕ) → s.1 ≡ t.1 → (if b then s else t).1 ≡ t.1
same_count true s t same = same
same_count false s t same = refl

later_lines_boot_not : (g : Lcg) (n frames : ℕ)
    → All boots_not (map (stream_line g) (later_nodes n) ++ flat_map (frame_lines n frames) (range_with_len 0 frames))
later_lines_boot_not g n frames =
    All-append boots_not (map (stream_line g) (later_nodes n)) (flat_map (frame_lines n frames) (range_with_len 0 frames))
    (All-map boots_not (stream_line g) (later_nodes n) (all_range (λ i. boots_not (stream_line g i)) 2 (n - 1)
    (λ i low high v t. same_count (i == v) t t refl)))
    (all_flat boots_not (frame_lines n frames) 0 frames (λ f low high. of_frame boots_not n frames f (λ v t. same_count (1 == v) (false, t.1) t refl)
    (λ i two last v t. same_count (i == v) t t refl)))

pub few_boots : (g : Lcg) (n frames v : ℕ) → n ≤ 64 → (turned v (false, 0) (script g n frames)).1 ≤ 200
few_boots g n frames v few =
    let ons = map on_line (all_nodes n) in
    let streams = map (stream_line g) (later_nodes n) in
    let rest = flat_map (frame_lines n frames) (range_with_len 0 frames) in
    let whole : (ons ++ streams) ++ rest ≡ ons ++ (streams ++ rest) = append_assoc ons streams rest in
    let cut = ap (λ (ls : List ScriptLine). (turned v (false, 0) ls).1) whole ∙ ap (λ (t : Bool × ℕ). t.1) (turned_over v (false, 0) ons (streams ++ rest)) in
    omega (
      arith,
      cut,
      boots_stay v (turned v (false, 0) ons) (streams ++ rest) (later_lines_boot_not g n frames),
      no_more_boots_than_lines v
          (false, 0) ons,
      length-map-range_with_len on_line 1 n,
    )
