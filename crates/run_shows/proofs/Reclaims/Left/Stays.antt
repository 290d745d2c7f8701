-- What is left over and the roots that are nobody's are as they were: what is behind roots stays.
use Rattle.std.specs.Prelude.{Option, Some}
use Rattle.std.proofs.Common.{◌≡◌, ℕ, zero, suc, ◌<◌, List, [], ◌∷◌, ◌⊎◌, inl, inr, refl, arith}
use Rattle.seize_words.specs.declared.at.At.TheVariants.{Used}
use Rattle.seize_words.specs.OneMemory.Mem.{word_at}
use Rattle.seize.specs.World.{World, times}
use Rattle.seize_acts.specs.Reclaims.Roots.{all_lists}
use Rattle.run_effects.specs.Given.TablesDeclared.node.Node.{Node}
use Rattle.many_maps.specs.Endings.{Finishing}
use Rattle.many_maps.specs.Makings.{Beginning}
use Rattle.many_maps.specs.Maps.{Standing}
use Rattle.many_maps.proofs.Ends.CountedBlocks.{times-append}
use Rattle.run_shows.specs.Reclaims.Left.{IsSomebodys, LeftWithEndings, NothingIsLeft, LeftIsLeftBehind}
use Rattle.run_shows.specs.Reclaims.Reclaims.{IsRootOf, RootLeads}
use Rattle.run_shows.proofs.Reclaims.Behind.Kept.{KeepsLeft, in_all, leads_by}

module _ {K V : Type 0} (roots : ℕ) (lists : ℕ → List ℕ) (w w2 : World (Node K V)) (maps maps2 : ℕ → Option (Standing K)) (makers : ℕ → Option (Beginning K)) (enders : ℕ → Option (Finishing K V))
    (left : LeftWithEndings roots w maps makers enders lists) (keeps : KeepsLeft (IsRootOf maps) w w2) (before : (r : ℕ) → IsRootOf maps2 r → IsRootOf maps r) (still : (r : ℕ) → IsRootOf maps r → IsRootOf maps2 r)
    (taken : (r : ℕ) → IsRootOf maps r → word_at w.memory (Used r) ≡ Some 1) where
  -- a root that leads to a list, or is free, is no standing map's
  not_its : (r : ℕ) (l : List ℕ) → r < roots → lists r ≡ l → RootLeads w r l → IsRootOf maps r → ⊥
  not_its r [] below is (unused, nowhere) its = let one = taken r its in cc (one, unused)
  not_its r (b ∷ l) below is leads its = let none = left.none r below (inl its) in cc (none, is)

  leads_on : (r : ℕ) → r < roots → RootLeads w r (lists r) → RootLeads w2 r (lists r)
  leads_on r below leads =
      leads_by w w2 r (lists r) (λ a is. keeps.roots r a (not_its r (lists r) below refl leads) is) (λ a is. keeps.used r a (not_its r (lists r) below refl leads) is)
      (λ x on. let k = left.left x (let q = in_all lists r roots x below in omega (arith, q, on)) in (keeps.values x k.0 k.1, λ next is. keeps.links x k.0 next k.1 is)) leads

  somebodys_on : (r : ℕ) → IsSomebodys maps makers enders r → IsSomebodys maps2 makers enders r
  somebodys_on r (inl is) = inl (still r is)
  somebodys_on r (inr is) = inr is

  somebodys_before : (r : ℕ) → IsSomebodys maps2 makers enders r → IsSomebodys maps makers enders r
  somebodys_before r (inl is) = inl (before r is)
  somebodys_before r (inr is) = inr is

  pub left_stays : LeftWithEndings roots w2 maps2 makers enders lists
  left_stays = record {
    root = λ r below. (elim (left.root r below) as (λ _. IsSomebodys maps2 makers enders r ⊎ RootLeads w2 r (lists r)) [
      | inl is ↦ inl (somebodys_on r is)
      | inr leads ↦ inr (leads_on r below leads)
    ]);
    none = λ r below is. left.none r below (somebodys_before r is);
    left = λ b on. let k = left.left b on in (k.0, keeps.hands b k.0 k.1);
    once = left.once;
    apart = left.apart;
  }

-- where nothing else is under way
pub left_is_left_behind : (K V : Type 0) → LeftIsLeftBehind K V
left_is_left_behind K V roots w maps makers enders lists no_makers no_enders = (
  λ left. record {
    others = λ r below ne. (elim (left.root r below) as (λ _. IsRootOf maps r ⊎ RootLeads w r (lists r)) [
      | inl is ↦ inl (of_map r is)
      | inr leads ↦ inr leads
    ]);
    none = λ r below is. left.none r below (inl is);
    left = left.left;
    once = left.once;
  },
  λ left. record {
    root = λ r below. (elim (left.others r below (λ e. omega (arith, e, below))) as (λ _. IsSomebodys maps makers enders r ⊎ RootLeads w r (lists r)) [
      | inl is ↦ inl (inl is)
      | inr leads ↦ inr leads
    ]);
    none = λ r below is. left.none r below (of_map r is);
    left = left.left;
    once = left.once;
    apart = λ j f ends. absurd (let none = no_enders j in cc (none, ends));
  },
)
  where
    of_map : (r : ℕ) → IsSomebodys maps makers enders r → IsRootOf maps r
    of_map r (inl is) = is
    of_map r (inr (inl (j, b, makes, taken, is))) = absurd (let none = no_makers j in cc (none, makes))
    of_map r (inr (inr (j, f, ends, is))) = absurd (let none = no_enders j in cc (none, ends))

none_in_all : (n x : ℕ) → times x (all_lists (λ r. []) n) ≡ 0
none_in_all zero x = refl
none_in_all (suc n) x = let k = times-append x (all_lists (λ r. []) n) [] in let ih = none_in_all n x in omega (arith, k, ih)

-- at the beginning
pub nothing_is_left : (K V : Type 0) → NothingIsLeft K V
nothing_is_left K V roots w maps makers enders each = record {
  root = each;
  none = λ r below is. refl;
  left = λ b on. absurd (let k = none_in_all roots b in omega (arith, k, on));
  once = λ b. let k = none_in_all roots b in omega (arith, k);
  apart = λ j f ends b on. absurd (let k = none_in_all roots b in omega (arith, k, on));
}
