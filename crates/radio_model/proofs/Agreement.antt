-- Scenes in which the same happened before a tick.
use Rattle.std.proofs.Common.{ℕ, ◌≤◌, refl, sym, ◌∙◌, arith}
use Rattle.radio_model.specs.Hearing.{Scene}
use Rattle.radio_model.specs.Holding.{Agree}

pub agree_same : (t : ℕ) (a : Scene) → Agree t a a
agree_same t a = record {
  numbers = refl;
  lines = refl;
  sendings = λ y early. (λ is. is, λ is. is);
  tuned = λ v channel k early. (λ is. is, λ is. is);
}

pub agree_back : (t : ℕ) (a b : Scene) → Agree t a b → Agree t b a
agree_back t a b s = record {
  numbers = sym s.numbers;
  lines = sym s.lines;
  sendings = λ y early. ((s.sendings y early).1, (s.sendings y early).0);
  tuned = λ v channel k early. ((s.tuned v channel k early).1, (s.tuned v channel k early).0);
}

pub agree_on : (t : ℕ) (a b c : Scene) → Agree t a b → Agree t b c → Agree t a c
agree_on t a b c s u = record {
  numbers = s.numbers ∙ u.numbers;
  lines = s.lines ∙ u.lines;
  sendings = λ y early. (λ is. (u.sendings y early).0 ((s.sendings y early).0 is), λ is. (s.sendings y early).1 ((u.sendings y early).1 is));
  tuned =
      λ v channel k early. (
        λ is. (u.tuned v channel k early).0 ((s.tuned v channel k early).0 is),
        λ is. (s.tuned v channel k early).1 ((u.tuned v channel k early).1 is),
      );
}

pub agree_earlier : (s t : ℕ) (a b : Scene) → s ≤ t → Agree t a b → Agree s a b
agree_earlier s t a b before g = record {
  numbers = g.numbers;
  lines = g.lines;
  sendings = λ y early. g.sendings y (omega arith);
  tuned = λ v channel k early. g.tuned v channel k (omega arith);
}
