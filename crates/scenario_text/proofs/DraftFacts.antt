-- What is true of each draft of a scenario, and how its lists keep it.
use Rattle.std.proofs.Common.{◌≡◌, ℕ, suc, ◌+◌, ◌-◌, ◌≤◌, List, [], ◌∷◌, ◌++◌, Bool, true, false, not, ◌&&◌, ◌==◌}
use Rattle.std.proofs.Common.{nat_le, Option, None, IfSome, length, refl, sym, ◌∙◌, ap, arith}
use Rattle.std.proofs.lemmas.Bool.{cond_both, and_from, and_parts, or_parts, leb-true}
use Rattle.std.specs.Prelude.{slice_get}
use Rattle.std.specs.Cmp.{IsTotalOrder}
use Rattle.std.specs.List.{AllByRecursion, list_any}
use Rattle.std.specs.Option.{option_map_or}
use Rattle.std.specs.Ordering.{is_lt, is_eq, ordering_reverse}
use Rattle.std.specs.declared.cmp.Ordering.{Ordering}
use Rattle.std.specs.declared.cmp.Ordering.TheVariants.{Less, Equal, Greater}
use Rattle.lwb_base.specs.declared.limits.TheConstants.{MOST_FRAMES, MOST_RANKS}
use Rattle.lwb_base.specs.Profile.{Numbers, IsProfile, contended}
use Rattle.link_trace.specs.Order.{with_line, by_link, by_loss, by_cut, by_capture}
use Rattle.link_trace.specs.Passes.{Lines}
use Rattle.scenario_text.specs.FloodParts.{knows}
use Rattle.scenario_text.specs.FloodDrafts.{Climbs, IsNetwork}
use Rattle.scenario_text.specs.Network.{is_id}
use Rattle.scenario_text.specs.ScenarioGrammar.{Scenario, no_scenario, last_tick, last_script_line, line_in_range, line_knows_ids}
use Rattle.scenario_text.specs.declared.limits.TheConstants.{BUS_SCRIPT_LINES}
use Rattle.scenario_text.specs.declared.lines.NodeLine.{NodeLine}
use Rattle.scenario_text.specs.declared.scenario_line.ScenarioLine.{ScenarioLine}
use Rattle.scenario_text.specs.declared.scenario_line.ScenarioLine.TheVariants as line
use Rattle.scenario_text.specs.declared.network_line.NetworkLine.TheVariants.{Sends, Node, Rate, Link, Pair}
use Rattle.scenario_text.specs.declared.script.ScriptLine.{ScriptLine}
use Rattle.scenario_text.proofs.RatesKept.{map_all}
use Rattle.scenario_text.proofs.CanonicalFacts.{Power, no_power, after_act, can_boot, power_after, Boots, said_act}
use Rattle.scenario_text.proofs.CanonicalFacts.{said_link, said_loss, said_cut, said_capture, Fits, FitsAct, judged}

pub record AreHosts (ns : List NodeLine) (hs : List ℕ) : Type 0 where
  pub known : AllByRecursion (λ h. knows ns h ≡ true) hs
  pub few : length hs ≤ MOST_RANKS
  pub distinct : Climbs (λ g h. (g == h) ≡ false) hs

pub record IsScript (p : Numbers) (frames : Option ℕ) (ns : List NodeLine) (ls : List ScriptLine) : Type 0 where
  pub fits : AllByRecursion (FitsAct (judged p frames ns)) ls
  pub climbs : Climbs (λ a b. a.frame ≤ b.frame) ls
  pub boots : Boots no_power ls

pub record IsTrace (p : Numbers) (frames : Option ℕ) (ns : List NodeLine) (t : Lines) : Type 0 where
  pub links : AllByRecursion (λ l. Fits (judged p frames ns) (said_link l)) t.links
  pub links_climb : Climbs (λ a b. by_link a b ≡ Less) t.links
  pub losses : AllByRecursion (λ l. Fits (judged p frames ns) (said_loss l)) t.losses
  pub losses_climb : Climbs (λ a b. by_loss a b ≡ Less) t.losses
  pub cuts : AllByRecursion (λ l. Fits (judged p frames ns) (said_cut l)) t.cuts
  pub cuts_climb : Climbs (λ a b. by_cut a b ≡ Less) t.cuts
  pub captures : AllByRecursion (λ l. Fits (judged p frames ns) (said_capture l)) t.captures
  pub captures_climb : Climbs (λ a b. by_capture a b ≡ Less) t.captures

-- no line above has a frame
pub record IsUnframed (ls : List ScriptLine) (t : Lines) : Type 0 where
  pub script : ls ≡ []
  pub losses : t.losses ≡ []
  pub cuts : t.cuts ≡ []
  pub captures : t.captures ≡ []

-- no line, over the long horizon
abbrev pub nothing : Scenario
nothing = no_scenario BUS_SCRIPT_LINES

abbrev pub after_top : Numbers → Bool → Scenario
after_top p b = record nothing { first = false; after_two = b; profile = p }

pub record IsFine (d : Scenario) : Type 0 where
  pub network : IsNetwork d.network
  pub first : d.first ≡ true → d ≡ nothing
  pub second : d.after_two ≡ true → d ≡ after_top (contended 0) true
  pub profile : IsProfile d.profile
  pub frames : IfSome d.frames (λ f. (1 ≤ f) × (f ≤ MOST_FRAMES))
  pub ids : AllByRecursion (λ n. is_id n.node ≡ true) d.network.nodes
  pub ticks : AllByRecursion (λ r. r.from ≤ last_tick d.profile) d.network.rates
  pub hosts : AreHosts d.network.nodes d.hosts
  pub script : IsScript d.profile d.frames d.network.nodes d.script
  pub trace : IsTrace d.profile d.frames d.network.nodes d.network.trace
  pub unframed : d.frames ≡ None → IsUnframed d.script d.network.trace
  pub power : record { on = d.on; boots = d.boots } ≡ power_after no_power d.script
  pub counted : d.network.scripted ≡ length d.network.rates + length d.script + length d.network.trace.losses + length d.network.trace.cuts
      + length d.network.trace.captures
  pub few : d.network.scripted ≤ BUS_SCRIPT_LINES
  pub limit : d.network.most ≡ BUS_SCRIPT_LINES

-- a known node stays so
abbrev pub KnowsMore : List NodeLine → List NodeLine → Type 0
KnowsMore ns ms = (v : ℕ) → knows ns v ≡ true → knows ms v ≡ true

both_known : (ns ms : List NodeLine) (u v : ℕ) → KnowsMore ns ms → (knows ns u && knows ns v) ≡ true → (knows ms u && knows ms v) ≡ true
both_known ns ms u v more both = let p = and_parts (knows ns u) (knows ns v) both in and_from (knows ms u) (knows ms v) (more u p.0) (more v p.1)

range_same : (p : Numbers) (f : Option ℕ) (ns ms : List NodeLine) (l : ScenarioLine) → line_in_range (judged p f ns) l ≡ line_in_range (judged p f ms) l
range_same p f ns ms (line.InNetwork l) = refl
range_same p f ns ms (line.Profile n) = refl
range_same p f ns ms (line.Contend c) = refl
range_same p f ns ms (line.Frames n) = refl
range_same p f ns ms (line.Host r i) = refl
range_same p f ns ms (line.Script t i a) = refl
range_same p f ns ms (line.Lose t j k u v) = refl
range_same p f ns ms (line.Cut t j k i) = refl
range_same p f ns ms (line.Capture t j k a b) = refl

known_more : (p : Numbers) (f : Option ℕ) (ns ms : List NodeLine) (l : ScenarioLine) → KnowsMore ns ms
    → line_knows_ids (judged p f ns) l ≡ true → line_knows_ids (judged p f ms) l ≡ true
known_more p f ns ms (line.InNetwork (Sends x)) more known = refl
known_more p f ns ms (line.InNetwork (Node i o)) more known = refl
known_more p f ns ms (line.InNetwork (Rate i t slow n)) more known = more i known
known_more p f ns ms (line.InNetwork (Link u v)) more known = both_known ns ms u v more known
known_more p f ns ms (line.InNetwork (Pair u v)) more known = both_known ns ms u v more known
known_more p f ns ms (line.Profile n) more known = refl
known_more p f ns ms (line.Contend c) more known = refl
known_more p f ns ms (line.Frames n) more known = refl
known_more p f ns ms (line.Host r i) more known = more i known
known_more p f ns ms (line.Script t i a) more known = more i known
known_more p f ns ms (line.Lose t j k u v) more known = both_known ns ms u v more known
known_more p f ns ms (line.Cut t j k i) more known = more i known
known_more p f ns ms (line.Capture t j k a b) more known = both_known ns ms a b more known

fits_more : (p : Numbers) (f : Option ℕ) (ns ms : List NodeLine) (l : ScenarioLine) → KnowsMore ns ms → Fits (judged p f ns) l → Fits (judged p f ms) l
fits_more p f ns ms l more fits = record { range = sym (range_same p f ns ms l) ∙ fits.range; known = known_more p f ns ms l more fits.known }

all_fit_more : {L : Type 0} (said : L → ScenarioLine) (p : Numbers) (f : Option ℕ) (ns ms : List NodeLine) (ls : List L) → KnowsMore ns ms
    → AllByRecursion (λ l. Fits (judged p f ns) (said l)) ls → AllByRecursion (λ l. Fits (judged p f ms) (said l)) ls
all_fit_more said p f ns ms ls more all = map_all (λ l. Fits (judged p f ns) (said l)) (λ l. Fits (judged p f ms) (said l)) ls
    (λ l fits. fits_more p f ns ms (said l) more fits) all

pub hosts_more : (ns ms : List NodeLine) (hs : List ℕ) → KnowsMore ns ms → AreHosts ns hs → AreHosts ms hs
hosts_more ns ms hs more are =
    record { known = map_all (λ h. knows ns h ≡ true) (λ h. knows ms h ≡ true) hs more are.known; few = are.few; distinct = are.distinct }

pub script_more : (p : Numbers) (f : Option ℕ) (ns ms : List NodeLine) (ls : List ScriptLine) → KnowsMore ns ms → IsScript p f ns ls → IsScript p f ms ls
script_more p f ns ms ls more is = record {
  fits = map_all (FitsAct (judged p f ns)) (FitsAct (judged p f ms)) ls
      (λ l at. record { fits = fits_more p f ns ms (said_act l.frame l.node l.act) more at.fits; bytes = at.bytes }) is.fits;
  climbs = is.climbs;
  boots = is.boots;
}

pub trace_more : (p : Numbers) (f : Option ℕ) (ns ms : List NodeLine) (t : Lines) → KnowsMore ns ms → IsTrace p f ns t → IsTrace p f ms t
trace_more p f ns ms t more is = record {
  links = all_fit_more said_link p f ns ms t.links more is.links;
  links_climb = is.links_climb;
  losses = all_fit_more said_loss p f ns ms t.losses more is.losses;
  losses_climb = is.losses_climb;
  cuts = all_fit_more said_cut p f ns ms t.cuts more is.cuts;
  cuts_climb = is.cuts_climb;
  captures = all_fit_more said_capture p f ns ms t.captures more is.captures;
  captures_climb = is.captures_climb;
}

-- a line at its place
pub with_line_all : {L : Type 0} (P : L → Type 0) (order : L → L → Ordering) (l : L) (ls : List L) → P l → AllByRecursion P ls
    → AllByRecursion P (with_line order l ls)
with_line_all P order l [] here all = (here, tt)
with_line_all P order l (x ∷ xs) here all =
    cond_both (is_lt (order x l)) (x ∷ with_line order l xs) (l ∷ x ∷ xs) (AllByRecursion P)
    (λ is. (all.0, with_line_all P order l xs here all.1)) (λ not. (here, all))

pub with_line_length : {L : Type 0} (order : L → L → Ordering) (l : L) (ls : List L) → length (with_line order l ls) ≡ length ls + 1
with_line_length order l [] = refl
with_line_length order l (x ∷ xs) =
    cond_both (is_lt (order x l)) (x ∷ with_line order l xs) (l ∷ x ∷ xs) (λ (ys : List _). length ys ≡ length (x ∷ xs) + 1)
    (λ is. omega (arith, with_line_length order l xs)) (λ not. omega arith)

less_is : (o : Ordering) → is_lt o ≡ true → o ≡ Less
less_is Less is = refl
less_is Equal is = cc
less_is Greater is = cc

greater_back : (o : Ordering) → is_lt o ≡ false → is_eq o ≡ false → ordering_reverse o ≡ Less
greater_back Less not differ = cc
greater_back Equal not differ = cc
greater_back Greater not differ = refl

pub with_line_climbs : {L : Type 0} (order : L → L → Ordering) (test : L → Bool) (l : L) (ls : List L) → IsTotalOrder order
    → ((x : L) → is_eq (order x l) ≡ test x) → list_any test ls ≡ false
    → Climbs (λ a b. order a b ≡ Less) ls → Climbs (λ a b. order a b ≡ Less) (with_line order l ls)
with_line_climbs order test l [] total tells fresh climbs = (tt, tt)
with_line_climbs order test l (x ∷ xs) total tells fresh climbs =
    let other = or_parts (test x) (list_any test xs) fresh in
    cond_both (is_lt (order x l)) (x ∷ with_line order l xs) (l ∷ x ∷ xs) (Climbs (λ a b. order a b ≡ Less))
    (λ is. (with_line_all (λ y. order x y ≡ Less) order l xs (less_is (order x l) is) climbs.0, with_line_climbs order test l xs total tells other.1 climbs.1))
    (λ not.
    let below : order l x ≡ Less = total.antisymm l x ∙ greater_back (order x l) not (tells x ∙ other.0) in
    ((below, map_all (λ y. order x y ≡ Less) (λ y. order l y ≡ Less) xs (λ y above. total.trans l x y below above) climbs.0), climbs))

pub boots_more : (w : Power) (xs : List ScriptLine) (l : ScriptLine) → Boots w xs → can_boot (power_after w xs) l.node l.act ≡ true → Boots w (xs ++ l ∷ [])
boots_more w [] l boots can = (can, tt)
boots_more w (x ∷ xs) l boots can = (boots.0, boots_more (after_act w x.node x.act) xs l boots.1 can)

-- where the last frame is not above f, none is
pub none_later : (f : ℕ) (ls : List ScriptLine) → Climbs (λ a b. a.frame ≤ b.frame) ls
    → option_map_or (λ l. nat_le l.frame f) (last_script_line ls) true ≡ true → AllByRecursion (λ l. l.frame ≤ f) ls
none_later f [] climbs last = tt
none_later f (x ∷ []) climbs last = (leb-true x.frame f last, tt)
none_later f (x ∷ y ∷ ys) climbs last =
    let here : length (x ∷ y ∷ ys) - 1 ≡ suc (length (y ∷ ys) - 1) = omega arith in
    let others = none_later f (y ∷ ys) climbs.1 (ap (λ (k : ℕ). option_map_or (λ l. nat_le l.frame f) (slice_get (x ∷ y ∷ ys) k) true) (sym here) ∙ last) in
    let first = climbs.0.0 in
    let second = others.0 in
    (omega (arith, first, second), others)
