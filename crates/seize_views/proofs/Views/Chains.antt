-- A chain stays as it is where the links of its blocks do; and what a section holds of one it holds still.
use Rattle.std.specs.Prelude.{◌≢◌, ◌<◌, ◌==◌, ◌-◌, Option, Some, None, IsSome, slice_index_or, if◌then◌else◌}
use Rattle.std.proofs.Common.{◌≡◌, ℕ, zero, suc, ◌+◌, List, [], ◌∷◌, Bool, true, false, ◌⊎◌, inl, inr, refl, sym, subst, ap, ◌∙◌, arith}
use Rattle.std.proofs.lemmas.Bool.{cases_eq, eq-eqb, ne_eqb}
use Rattle.seize_words.specs.OneMemory.Mem.{Mem, value_in, word_in, value_at, word_at}
use Rattle.seize_words.specs.declared.block.Block.{Block}
use Rattle.seize_words.specs.OneMemory.Word.{block_in}
use Rattle.seize_words.specs.declared.at.At.TheVariants.{Root, Word}
use Rattle.seize.specs.Law.{holds}
use Rattle.seize.specs.World.{World, Hand, times, with_at}
use Rattle.seize.specs.World as world
use Rattle.seize_views.specs.Views.Chains.{IsChainRoot, LinksTo, IsBelow, IsLinkSeen, HasLink, HoldsAllBelow, StandBelow, Chain}
use Rattle.seize_acts.proofs.Given.SeizeRuleRows.Others.{with_here, with_other}
use Rattle.seize_views.specs.declared.view.TheConstants.{LINK}
use Rattle.seize_views.specs.declared.view.Fixed.{Fixed}
use Rattle.seize_words.proofs.General.{same_some}

module _ {T : Type 0} where
  -- a block has the same value and the same link in both memories
  abbrev pub SameLink : Mem T → Mem T → ℕ → Type 0
  SameLink m n b = (value_at n b ≡ value_at m b) × (word_at n (Word b LINK) ≡ word_at m (Word b LINK))

  -- a link names one block
  pub links_once : (m : Mem T) (b c d : ℕ) → LinksTo m b c → LinksTo m b d → c ≡ d
  links_once m b c d a e = sym a.2 ∙ ap block_in (same_some a.0 e.0 (sym a.1 ∙ e.1)) ∙ e.2

  -- no block has number 0, so it has no link
  pub none_links : (m : Mem T) (b c : ℕ) → b ≡ 0 → LinksTo m b c → ⊥
  none_links m b c zero_is links = let at = subst (λ (k : ℕ). word_at m (Word k LINK) ≡ Some links.0) zero_is links.1 in cc at

  pub links_kept : (m n : Mem T) (b c : ℕ) → SameLink m n b → LinksTo m b c → LinksTo n b c
  links_kept m n b c same links = (links.0, same.1 ∙ links.1, links.2)

  pub links_before : (m n : Mem T) (b c : ℕ) → SameLink m n b → LinksTo n b c → LinksTo m b c
  links_before m n b c same links = (links.0, sym same.1 ∙ links.1, links.2)

  pub same_blocks : (m n : Mem T) (b : ℕ) → n.blocks ≡ m.blocks → SameLink m n b
  same_blocks m n b same = (
    ap (λ (l : List (Option (Block T))). value_in (if b == 0 then None else slice_index_or l (b - 1) None)) same,
    ap (λ (l : List (Option (Block T))). word_in (if b == 0 then None else slice_index_or l (b - 1) None) LINK) same,
  )

  pub same_where : (m n : Mem T) (b : ℕ) → n ≡ m → SameLink m n b
  same_where m n b same = (ap (λ (x : Mem T). value_at x b) same, ap (λ (x : Mem T). word_at x (Word b LINK)) same)

-- who is linked at a root is linked there where the hand of another block changes

pub linked_beside : (hand : ℕ → Hand) (o : ℕ) (k : Hand) (r b : ℕ) → (hand o ≡ world.InUse r → ⊥) → hand b ≡ world.InUse r → with_at hand o k b ≡ world.InUse r
linked_beside hand o k r b not is = with_other hand o b k (λ e. not (ap hand (sym e) ∙ is)) ∙ is

pub linked_back : (hand : ℕ → Hand) (o : ℕ) (k : Hand) (r b : ℕ) → (k ≡ world.InUse r → ⊥) → with_at hand o k b ≡ world.InUse r → hand b ≡ world.InUse r
linked_back hand o k r b not is = elim (cases_eq b o) as (λ _. hand b ≡ world.InUse r) [
  | inl same ↦ absurd (not (sym (ap (with_at hand o k) same ∙ with_here hand o k) ∙ is))
  | inr ne ↦ sym (with_other hand o b k ne) ∙ is
]

-- a root of single blocks is none of a chain
pub not_chain : (fixed : Fixed) (a r : ℕ) → a < fixed.roots → IsChainRoot fixed r → r ≢ a
not_chain fixed a r plain is e = omega (arith, plain, is.0, e)

-- a block that stands before others is one of them
pub here_once : (b : ℕ) (blocks : List ℕ) → times b (b ∷ blocks) ≡ 1 + times b blocks
here_once b blocks = ap (λ (y : Bool). (if y then 1 else 0) + times b blocks) (eq-eqb b b refl)

pub apart_times : (b c : ℕ) (blocks : List ℕ) → b ≢ c → times b (c ∷ blocks) ≡ times b blocks
apart_times b c blocks ne =
    let none : 0 + times b blocks ≡ times b blocks = omega arith in ap (λ (y : Bool). (if y then 1 else 0) + times b blocks) (ne_eqb b c ne) ∙ none

pub there_too : (b c : ℕ) (blocks : List ℕ) → 0 < times b blocks → 0 < times b (c ∷ blocks)
there_too b c blocks some = by (b == c)
  where
    by : (y : Bool) → 0 < (if y then 1 else 0) + times b blocks
    by true = omega (arith, some)
    by false = omega (arith, some)

module _ {T : Type 0} (defers : T → Option ℕ) where
  pub has_link_kept : (m n : Mem T) (b : ℕ) → SameLink m n b → HasLink defers m b → HasLink defers n b
  has_link_kept m n b same has = ((has.0.0, same.0 ∙ has.0.1, has.0.2), subst IsSome (sym same.1) has.1)

  pub stand_kept : (m n : Mem T) (blocks : List ℕ) (c : ℕ) → ((b : ℕ) → 0 < times b blocks → HasLink defers m b → SameLink m n b) → StandBelow defers m c blocks
      → StandBelow defers n c blocks
  stand_kept m n [] c same stand = stand
  stand_kept m n (b ∷ blocks) c same stand =
      let mine = same b (subst (λ (k : ℕ). 0 < k) (sym (here_once b blocks)) (omega arith)) stand.1 in (
        stand.0,
        has_link_kept m n b mine stand.1,
        (
          stand.2.0,
          links_kept m n b stand.2.0 mine stand.2.1,
          stand_kept m n blocks stand.2.0 (λ d some. same d (there_too d b blocks some)) stand.2.2,
        ),
      )

  -- a block of a chain stands so many links below the first one
  pub stands_there : (m : Mem T) (blocks : List ℕ) (c b : ℕ) → StandBelow defers m c blocks → 0 < times b blocks → (n : ℕ) × IsBelow m n c b
  stands_there m [] c b stand some = absurd (omega (arith, some))
  stands_there m (d ∷ blocks) c b stand some = elim (cases_eq b d) as (λ _. (n : ℕ) × IsBelow m n c b) [
    | inl same ↦ (0, stand.0 ∙ sym same)
    | inr ne ↦ (let rest : 0 < times b blocks = subst (λ (k : ℕ). 0 < k) (apart_times b d blocks ne) some in
        let k = stands_there m blocks stand.2.0 b stand.2.2 rest in
        (suc k.0, (stand.2.0, subst (λ (x : ℕ). LinksTo m x stand.2.0) (sym stand.0) stand.2.1, k.1)))
  ]

  -- a chain stays where the root names what it named, and who is linked there is linked there, with the same link
  pub chain_kept : (m n : Mem T) (hand hand2 : ℕ → Hand) (r : ℕ) → word_at n (Root r) ≡ word_at m (Root r)
      → ((b : ℕ) → hand b ≡ world.InUse r → hand2 b ≡ world.InUse r) → ((b : ℕ) → hand2 b ≡ world.InUse r → hand b ≡ world.InUse r)
      → ((b : ℕ) → hand b ≡ world.InUse r → HasLink defers m b → SameLink m n b) → Chain defers m hand r → Chain defers n hand2 r
  chain_kept m n hand hand2 r root on back same c = record {
    word = c.word;
    at = root ∙ c.at;
    blocks = c.blocks;
    stand = stand_kept m n c.blocks (block_in c.word) (λ b some. same b (c.linked b some)) c.stand;
    once = λ b is. c.once b (back b is);
    linked = λ b some. on b (c.linked b some);
  }

  module _ (w n : World T) (t : ℕ) (same : (b : ℕ) → holds t b w.log ≡ true → HasLink defers w.memory b → SameLink w.memory n.memory b)
      (held : (b : ℕ) → holds t b w.log ≡ true → holds t b n.log ≡ true) where
    -- what a section holds, and has a link, has the same one
    same_here : (b : ℕ) → HoldsAllBelow defers w t b → (b ≡ 0) ⊎ SameLink w.memory n.memory b
    same_here b all = elim (all 0 b refl) as (λ _. (b ≡ 0) ⊎ SameLink w.memory n.memory b) [
      | inl none ↦ inl none
      | inr is ↦ inr (same b is.0 is.1)
    ]

    linked_before : (b c : ℕ) → HoldsAllBelow defers w t b → LinksTo n.memory b c → LinksTo w.memory b c
    linked_before b c all links = elim (same_here b all) as (λ _. LinksTo w.memory b c) [
      | inl none ↦ absurd (none_links n.memory b c none links)
      | inr is ↦ links_before w.memory n.memory b c is links
    ]

    -- so what is below it now was below it before
    below_before : (k b c : ℕ) → HoldsAllBelow defers w t b → IsBelow n.memory k b c → IsBelow w.memory k b c
    below_before zero b c all below = below
    below_before (suc k) b c all below =
        let links = linked_before b below.0 all below.1 in
        (below.0, links, below_before k below.0 c (λ x d is. all (suc x) d (below.0, links, is)) below.2)

    pub all_below_kept : (b : ℕ) → HoldsAllBelow defers w t b → HoldsAllBelow defers n t b
    all_below_kept b all k c below = elim (all k c (below_before k b c all below)) as (λ _. (c ≡ 0) ⊎ ((holds t c n.log ≡ true) × HasLink defers n.memory c)) [
      | inl none ↦ inl none
      | inr is ↦ inr (held c is.0, has_link_kept w.memory n.memory c (same c is.0 is.1) is.1)
    ]

    pub link_seen_kept : (b : ℕ) (next : Option ℕ) → HoldsAllBelow defers w t b → IsLinkSeen w.memory b next → IsLinkSeen n.memory b next
    link_seen_kept b None all seen = tt
    link_seen_kept b (Some c) all seen = elim (same_here b all) as (λ _. LinksTo n.memory b c) [
      | inl none ↦ absurd (none_links w.memory b c none seen)
      | inr is ↦ links_kept w.memory n.memory b c is seen
    ]

  -- a section that holds each block of a chain holds all that is below the first one
  pub chain_held : (m : Mem T) (t : ℕ) (w : World T) → w.memory ≡ m → (blocks : List ℕ) (c : ℕ) → StandBelow defers m c blocks
      → ((b : ℕ) → 0 < times b blocks → holds t b w.log ≡ true) → HoldsAllBelow defers w t c
  chain_held m t w is blocks c stand held k d below =
      by blocks c (subst (λ (x : Mem T). StandBelow defers x c blocks) (sym is) stand) held k d below
    where
      by : (blocks : List ℕ) (c : ℕ) → StandBelow defers w.memory c blocks → ((b : ℕ) → 0 < times b blocks → holds t b w.log ≡ true)
          → (k d : ℕ) → IsBelow w.memory k c d → (d ≡ 0) ⊎ ((holds t d w.log ≡ true) × HasLink defers w.memory d)
      by [] c stand held zero d below = inl (sym below ∙ stand)
      by [] c stand held (suc k) d below = absurd (none_links w.memory c below.0 stand below.1)
      by (b ∷ blocks) c stand held zero d below =
          let mine : b ≡ d = sym stand.0 ∙ below in
          let some : 0 < times b (b ∷ blocks) = subst (λ (x : ℕ). 0 < x) (sym (here_once b blocks)) (omega arith) in
          inr (subst (λ (x : ℕ). holds t x w.log ≡ true) mine (held b some), subst (λ (x : ℕ). HasLink defers w.memory x) mine stand.1)
      by (b ∷ blocks) c stand held (suc k) d below =
          let links = subst (λ (x : ℕ). LinksTo w.memory x below.0) stand.0 below.1 in
          let same : stand.2.0 ≡ below.0 = links_once w.memory b stand.2.0 below.0 stand.2.1 links in
          by blocks below.0 (subst (λ (x : ℕ). StandBelow defers w.memory x blocks) same stand.2.2) (λ e some. held e (there_too e b blocks some)) k d below.2
