-- Steps of the medium and of the places, one after another.
use Rattle.std.proofs.Common.{◌≡◌, ℕ, suc, List, [], ◌∷◌, map, ◌++◌, All, refl, sym, ◌∙◌, ap, subst, arith, Contains, inl, inr}
use Rattle.std.proofs.lemmas.List.{append-nil, append_assoc}
use Rattle.std.proofs.lemmas.List.Elements.{All-cons, All-nil}
use Rattle.lwb_base.specs.Profile.{Numbers}
use Rattle.radio_model.specs.declared.sending.Sending.{Sending}
use Rattle.radio_model.specs.Holding.{as_it_stands}
use Rattle.radio_model.specs.Stations.{MediumState, IsTime}
use Rattle.radio_model.proofs.Agreement.{agree_same, agree_on}
use Rattle.event_calendar.specs.Orders.{Due}
use Rattle.bus_rules.specs.Cores.{Setup}
use Rattle.air_log.specs.Entries.{node_of_entry}
use Rattle.world_engine.specs.Fields.{FieldState, IsField, ids_of, id_of, setup_of_device}
use Rattle.air_log.specs.DeviceStates.{DeviceState}
use Rattle.world_engine.specs.FieldSteps.{MediumGoesOn, AreSame}

abbrev pub id_in : Setup → ℕ
id_in s = s.id

-- where nothing is given to the medium
pub goes_on_nothing : (t : ℕ) (m : MediumState) → IsTime m t → MediumGoesOn t m m []
goes_on_nothing t m time = record {
  scene = λ a held. (a, record { held = held; lines = refl; sendings = sym (append-nil a.sendings); before = agree_same t (as_it_stands m t a) });
  time = time;
  nodes = refl;
  numbers = refl;
  still = λ is. is;
}

pub goes_on_then : (t : ℕ) (m n o : MediumState) (first second : List Sending) → MediumGoesOn t m n first → MediumGoesOn t n o second
    → MediumGoesOn t m o (first ++ second)
goes_on_then t m n o first second p q = record {
  scene = λ a held.
      let b = p.scene a held in
      let c = q.scene b.0 b.1.held in (
        c.0,
        record {
          held = c.1.held;
          lines = c.1.lines ∙ b.1.lines;
          sendings = c.1.sendings ∙ ap (λ (l : List Sending). l ++ second) b.1.sendings ∙ append_assoc a.sendings first second;
          before = agree_on t (as_it_stands m t a) (as_it_stands n t b.0) (as_it_stands o t c.0) b.1.before c.1.before;
        },
      );
  time = q.time;
  nodes = q.nodes ∙ p.nodes;
  numbers = q.numbers ∙ p.numbers;
  still = λ is. q.still (p.still is);
}

-- the same devices have the same ids
pub same_ids : (v w : FieldState) (due after : List Due) → AreSame v due w after → ids_of w ≡ ids_of v
same_ids v w due after same = sym (by_setup w.devices) ∙ ap (map id_in) same.setups ∙ by_setup v.devices
  where
    by_setup : (ds : List DeviceState) → map id_in (map setup_of_device ds) ≡ map id_of ds
    by_setup [] = refl
    by_setup (d ∷ ds) = ap (λ (l : List ℕ). d.setup.id ∷ l) (by_setup ds)

pub same_nothing : (w : FieldState) (due : List Due) → AreSame w due w due
same_nothing w due = record { setups = refl; places = refl; entries = λ e there. inl there; deliverers = λ d there. inl there }

pub same_then : (u v w : FieldState) (a b c : List Due) → AreSame u a v b → AreSame v b w c → AreSame u a w c
same_then u v w a b c p q = record {
  setups = q.setups ∙ p.setups;
  places = q.places ∙ p.places;
  entries = λ e there. elim (q.entries e there) [
    | inl in_v ↦ p.entries e in_v
    | inr of_v ↦ inr (subst (λ (l : List ℕ). Contains l (node_of_entry e)) (same_ids u v a b p) of_v)
  ];
  deliverers = λ d there. elim (q.deliverers d there) [
    | inl in_v ↦ p.deliverers d in_v
    | inr of_v ↦ inr (subst (λ (l : List ℕ). Contains l d.node) (same_ids u v a b p) of_v)
  ];
}

-- devices of the same setups go by the same numbers
abbrev HasNumbers : Numbers → DeviceState → Type 0
HasNumbers n d = d.setup.profile ≡ n

numbers_by : (n : Numbers) (ds es : List DeviceState) → map setup_of_device es ≡ map setup_of_device ds → All (HasNumbers n) ds → All (HasNumbers n) es
numbers_by n ds [] same all = All-nil (HasNumbers n)
numbers_by n [] (e ∷ es) same all = absurd (cc)
numbers_by n (d ∷ ds) (e ∷ es) same all =
    let head : e.setup ≡ d.setup = cc in
    let tail : map setup_of_device es ≡ map setup_of_device ds = cc in
    All-cons (HasNumbers n) e es (ap (λ (s : Setup). s.profile) head ∙ all 0 d (omega arith))
    (numbers_by n ds es tail (λ k x below. all (suc k) x (omega arith)))

-- a field goes on as one
pub field_goes_on : (t : ℕ) (begun : List Sending) (v w : FieldState) (due after : List Due) → AreSame v due w after → MediumGoesOn t v.medium w.medium begun
    → IsField v → IsField w
field_goes_on t begun v w due after same air field = record {
  medium = air.still field.medium;
  nodes = same_ids v w due after same ∙ field.nodes ∙ sym air.nodes;
  numbers = numbers_by w.medium.numbers v.devices w.devices same.setups (subst (λ (n : Numbers). All (HasNumbers n) v.devices) (sym air.numbers) field.numbers);
}
