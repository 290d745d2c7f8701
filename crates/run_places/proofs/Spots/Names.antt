-- Which places name a pair, and where it lies, after a change of a map's tables that leaves the pair where it was.
use Rattle.std.specs.Prelude.{◌≡◌, ◌≢◌, ℕ, ◌<◌, nat_lt, Bool, true, false}
use Rattle.std.proofs.Common.{refl, ap, sym, ◌∙◌, arith}
use Rattle.run_shows.specs.Given.TablesDeclared.status.TheConstants.Status.{ABORTED}
use Rattle.run_shows.specs.Given.RunsDeclared.effect.Spot.{Spot}
use Rattle.run_shows.specs.Given.RuleChart.{Phase, Still, Copying, Copied, Place, Empty, Tombstone, Holds, Chart, put_in}
use Rattle.run_shows.specs.Given.RuleMoves.{marked, still_place, copied_place}
use Rattle.run_shows.proofs.Given.RuleMoves.Writes.{put_in_one}
use Rattle.run_places.specs.Spots.Spots.{Nobody, ThePair, named_by, LiesAt, IsCopiedTo}

-- what a place holds that names the pair
pub holds_is : (p : Place) (n : ℕ) (b : Bool) → named_by p ≡ ThePair n b → (phase : Phase) × (p ≡ Holds n phase b)
holds_is (Empty mark) n b e = absurd (cc e)
holds_is (Tombstone mark) n b e = absurd (cc e)
holds_is (Holds o phase borrowed) n b e =
    let o_is : o ≡ n = cc e in let b_is : borrowed ≡ b = cc e in (phase, ap (λ (x : ℕ). Holds x phase borrowed) o_is ∙ ap (Holds n phase) b_is)

pub other_pair : (n o : ℕ) (b x : Bool) → ThePair n b ≡ ThePair o x → n ≡ o
other_pair n o b x e = cc e

pub nobody : (n : ℕ) (b : Bool) → Nobody ≡ ThePair n b → ⊥
nobody n b e = cc e

-- a mark changes no pair
pub marked_names : (p : Place) → named_by (marked p) ≡ named_by p
marked_names (Empty mark) = refl
marked_names (Tombstone mark) = refl
marked_names (Holds n Still b) = refl
marked_names (Holds n Copying b) = refl
marked_names (Holds n Copied b) = refl

module _ {K : Type 0} (spot : ℕ → K → ℕ → ℕ) (incremental : Bool) where
  pub still_names : (p : Place) → named_by (still_place spot incremental p) ≡ named_by p
  still_names (Empty mark) = refl
  still_names (Tombstone mark) = refl
  still_names (Holds n phase b) = refl

  pub copied_names : (p : Place) → named_by (copied_place spot incremental p) ≡ named_by p
  copied_names (Empty mark) = refl
  copied_names (Tombstone mark) = refl
  copied_names (Holds n phase b) = refl

-- two places name the pair both, or neither does
abbrev pub NamesAlike : ℕ → Place → Place → Type 0
NamesAlike n p q = (b : Bool) → (named_by p ≡ ThePair n b → named_by q ≡ ThePair n b) × (named_by q ≡ ThePair n b → named_by p ≡ ThePair n b)

pub alike_same : (n : ℕ) (p q : Place) → named_by q ≡ named_by p → NamesAlike n p q
alike_same n p q e b = (λ f. e ∙ f, λ f. sym e ∙ f)

pub alike_neither : (n : ℕ) (p q : Place) → ((b : Bool) → named_by p ≡ ThePair n b → ⊥) → ((b : Bool) → named_by q ≡ ThePair n b → ⊥) → NamesAlike n p q
alike_neither n p q none none2 b = (λ e. absurd (none b e), λ e. absurd (none2 b e))

-- the same places name it
abbrev pub SameOf : ℕ → (ℕ → ℕ → Place) → (ℕ → ℕ → Place) → Type 0
SameOf n f g = (u j : ℕ) → NamesAlike n (f u j) (g u j)

pub same_all : (n : ℕ) (f : ℕ → ℕ → Place) → SameOf n f f
same_all n f u j b = (λ e. e, λ e. e)

pub same_put : (n : ℕ) (f : ℕ → ℕ → Place) (t i : ℕ) (v : Place) → NamesAlike n (f t i) v → SameOf n f (put_in f t i v)
same_put n f t i v h u j = put_in_one (λ (x : ℕ) (y : ℕ) (w : Place). NamesAlike n (f x y) w) f t i v h (λ x y b. (λ e. e, λ e. e)) u j

module _ {K : Type 0} (c d : Chart K) (n : ℕ) where
  -- the pair is in the map still, and lies where it lay
  pub record Keeps : Type 0 where
    pub current : c.current n ≡ true
    pub names : SameOf n c.place d.place
    pub first : d.first ≡ c.first
    pub status : (t i : ℕ) (b : Bool) → c.first < t → named_by (c.place t i) ≡ ThePair n b → d.status t ≢ ABORTED → c.status t ≢ ABORTED

  pub lies_on : (q : Bool) → Keeps → (s : Spot) (born : ℕ) → LiesAt c q n s born → LiesAt d q n s born
  lies_on true k s born h = (
    (let e = k.first in let l = h.0 in omega (arith, e, l)),
    (k.names s.turn s.place (nat_lt born s.turn)).0 h.1,
    λ t i b e. h.2 t i b ((k.names t i b).1 e),
  )
  lies_on false k s born h = (h.0 ∙ sym k.first, (k.names s.turn s.place false).0 h.1)

  pub copied_on : Keeps → (s : Spot) → IsCopiedTo c n s → IsCopiedTo d n s
  copied_on k s h = record {
    is = λ t i b ahead live e.
        (let was = (k.names t i b).1 e in let f = k.first in let before : c.first < t = omega (arith, f, ahead) in h.is t i b before (k.status t i b before was live) was);
    there = λ ahead. (let f = k.first in let was = h.there (omega (arith, f, ahead)) in (was.0, (k.names s.turn s.place was.0).0 was.1));
  }
