-- What each step of the end of a map leaves to all others.
use Rattle.std.specs.Prelude.{◌≢◌, Some, None, IsSome}
use Rattle.std.proofs.Common.{◌≡◌, ℕ, ◌<◌, Bool, cond, List, [], ◌∷◌, inl, inr, refl, arith, ap, subst, ◌∙◌}
use Rattle.std.proofs.lemmas.Bool.{ne_eqb}
use Rattle.many_calls.specs.Given.SeizeWordsDeclared.at.At.TheVariants.{Root, Used, Entry}
use Rattle.many_calls.specs.Given.SeizeWordsMem.{value_at, word_at, with_word, with_block}
use Rattle.many_calls.proofs.Given.SeizeWordsOneOwner.AfterWrites.{word_at-with_word}
use Rattle.many_calls.specs.Given.SeizeDeclared.states.TheConstants.{NEXT}
use Rattle.many_calls.specs.Given.SeizeLaw.{holds}
use Rattle.many_calls.specs.Given.SeizeWorld.{World, NoBlock, times}
use Rattle.many_calls.specs.Given.TablesDeclared.setting.Setting.{Setting}
use Rattle.many_maps.specs.FactsEnds.{Looks, TakesPair, LeavesTable, JoinsPair, TakesLeft, TakesCounter, WritesRoot, Spares}
use Rattle.many_maps.proofs.Ends.CountedBlocks.{times_here, some_of_first}
use Rattle.many_maps.proofs.Ends.Memory.{taken_value, taken_word, taken_link, taken_gone, linked_value, linked_word, linked_other}
use Rattle.many_maps.proofs.Ends.Worlds.{over, away, over_hand, over_place, over_behind, over_left, away_free, away_place, away_behind, away_held}
use Rattle.many_calls.proofs.Together.At.{at_other as hand_other}

-- what is none of a list of one
pub other_than : (x b : ℕ) → times x (b ∷ []) ≡ 0 → x ≢ b
other_than x b none e = let a = subst (λ (z : ℕ). times z (b ∷ []) ≡ 0) e none in let k = times_here b [] in omega (arith, a, k)

-- and what is one
pub that_one : (x b : ℕ) → 0 < times x (b ∷ []) → x ≡ b
that_one x b some = elim (some_of_first x b [] some) as (λ _. x ≡ b) [
  | inl e ↦ e
  | inr none ↦ absurd (omega (arith, none))
]

-- nothing is in none
none_in : {X : Type 0} (x : ℕ) → 0 < times x [] → X
none_in x some = absurd (omega (arith, some))

module _ {T : Type 0} (setting : Setting) (caller : ℕ) (w : World T) where
  pub looks_spare : Spares setting caller w w Looks
  looks_spare = record {
    values = λ x none. refl;
    words = λ x i none. refl;
    links = λ x none other. refl;
    gone = λ x some. none_in x some;
    hands = λ x none other. refl;
    left = λ x some. none_in x some;
    places = λ x none uncut apart. refl;
    behind = λ x b e. e;
    held = λ s x none. refl;
    freed = λ s x some. none_in x some;
    owners = λ x. refl;
    orphans = λ x. refl;
    overs = λ x. refl;
    roots = λ r ne. (refl, refl);
    slots = refl;
    uses = refl;
    rows = refl;
  }

  -- a table is left over
  pub leaves_spare : (b : ℕ) (further : List ℕ) → Spares setting caller w (over w caller b further) (LeavesTable b further)
  leaves_spare b further = record {
    values = λ x none. refl;
    words = λ x i none. refl;
    links = λ x none other. refl;
    gone = λ x some. none_in x some;
    hands = λ x none apart. over_hand w caller b further x apart;
    left = λ x some. over_left w caller b further x some;
    places = λ x none uncut apart. over_place w caller b further x (other_than x b uncut) (λ e. other_than b b (apart b e) refl);
    behind = λ x d e. over_behind w caller b further x d e;
    held = λ s x none. refl;
    freed = λ s x some. none_in x some;
    owners = λ x. refl;
    orphans = λ x. refl;
    overs = λ x. refl;
    roots = λ r ne. (refl, refl);
    slots = refl;
    uses = refl;
    rows = refl;
  }

  -- a block is reclaimed
  module _ (b : ℕ) (some : IsSome (value_at w.memory b)) where
    gone_now : (x : ℕ) → 0 < times x (b ∷ []) → value_at (with_block w.memory b None) x ≡ None
    gone_now x is = ap (value_at (with_block w.memory b None)) (that_one x b is) ∙ taken_gone w.memory b some

    pub left_spare : Spares setting caller w (away w caller b) (TakesLeft b)
    left_spare = record {
      values = λ x none. taken_value w.memory b some x (other_than x b none);
      words = λ x i none. taken_word w.memory b some x i (other_than x b none);
      links = λ x none other. taken_link w.memory b some x (other_than x b none);
      gone = gone_now;
      hands = λ x none other. hand_other w.hand b NoBlock x (other_than x b none);
      left = λ x there. none_in x there;
      places = λ x none uncut apart. away_place w caller b x (other_than x b none);
      behind = λ x d e. away_behind w caller b x d e;
      held = λ s x none. away_held w caller b s x (other_than x b none);
      freed = λ s x is. ap (λ (y : ℕ). holds s y (away w caller b).log) (that_one x b is) ∙ away_free w caller b s;
      owners = λ x. refl;
      orphans = λ x. refl;
      overs = λ x. refl;
      roots = λ r ne. (refl, refl);
      slots = refl;
      uses = refl;
      rows = refl;
    }

    pub counter_spares : Spares setting caller w (away w caller b) (TakesCounter b)
    counter_spares = record {
      values = left_spare.values;
      words = left_spare.words;
      links = left_spare.links;
      gone = left_spare.gone;
      hands = left_spare.hands;
      left = left_spare.left;
      places = left_spare.places;
      behind = left_spare.behind;
      held = left_spare.held;
      freed = left_spare.freed;
      owners = left_spare.owners;
      orphans = left_spare.orphans;
      overs = left_spare.overs;
      roots = left_spare.roots;
      slots = refl;
      uses = refl;
      rows = refl;
    }

    abbrev given : World T
    given = away (over w caller b []) caller b

    pub pair_spares : Spares setting caller w given (TakesPair b)
    pair_spares = record {
      values = left_spare.values;
      words = left_spare.words;
      links = left_spare.links;
      gone = gone_now;
      hands = λ x none other. hand_other (over w caller b []).hand b NoBlock x (other_than x b none) ∙ over_hand w caller b [] x none;
      left = λ x there. none_in x there;
      places = λ x none uncut apart. away_place (over w caller b []) caller b x (other_than x b none) ∙ over_place w caller b [] x (other_than x b none) (λ e. other_than b b (apart b e) refl);
      behind = λ x d e. over_behind w caller b [] x d (away_behind (over w caller b []) caller b x d e);
      held = λ s x none. away_held (over w caller b []) caller b s x (other_than x b none);
      freed = λ s x is. ap (λ (y : ℕ). holds s y given.log) (that_one x b is) ∙ away_free (over w caller b []) caller b s;
      owners = λ x. refl;
      orphans = λ x. refl;
      overs = λ x. refl;
      roots = λ r ne. (refl, refl);
      slots = refl;
      uses = refl;
      rows = refl;
    }

  -- the link of a block is written
  pub joins_spare : (b word : ℕ) → IsSome (word_at w.memory (Entry b NEXT)) → Spares setting caller w (record w { memory = with_word w.memory (Entry b NEXT) word }) (JoinsPair b word)
  joins_spare b word some = record {
    values = λ x none. linked_value w.memory b word some x;
    words = λ x i none. linked_word w.memory b word some x i;
    links = λ x none other. linked_other w.memory b word some x (other_than x b other);
    gone = λ x there. none_in x there;
    hands = λ x none other. refl;
    left = λ x there. none_in x there;
    places = λ x none uncut apart. refl;
    behind = λ x d e. e;
    held = λ s x none. refl;
    freed = λ s x there. none_in x there;
    owners = λ x. refl;
    orphans = λ x. refl;
    overs = λ x. refl;
    roots = λ r ne. (refl, refl);
    slots = refl;
    uses = refl;
    rows = refl;
  }

  -- the root is written
  pub root_spares : (word : ℕ) → IsSome (word_at w.memory (Root setting.root))
      → Spares setting caller w (record w { memory = with_word w.memory (Root setting.root) word }) (WritesRoot (Root setting.root) word)
  root_spares word some = record {
    values = λ x none. refl;
    words = λ x i none. refl;
    links = λ x none other. refl;
    gone = λ x there. none_in x there;
    hands = λ x none other. refl;
    left = λ x there. none_in x there;
    places = λ x none uncut apart. refl;
    behind = λ x d e. e;
    held = λ s x none. refl;
    freed = λ s x there. none_in x there;
    owners = λ x. refl;
    orphans = λ x. refl;
    overs = λ x. refl;
    roots = λ r ne. (
      word_at-with_word w.memory (Root setting.root) word (Root r) some ∙ ap (λ (q : Bool). cond q (Some word) (word_at w.memory (Root r))) (ne_eqb r setting.root ne),
      refl,
    );
    slots = refl;
    uses = refl;
    rows = refl;
  }

  -- and given up
  pub free_spares : IsSome (word_at w.memory (Used setting.root))
      → Spares setting caller w (record w { memory = with_word w.memory (Used setting.root) 0 }) (WritesRoot (Used setting.root) 0)
  free_spares some = record {
    values = λ x none. refl;
    words = λ x i none. refl;
    links = λ x none other. refl;
    gone = λ x there. none_in x there;
    hands = λ x none other. refl;
    left = λ x there. none_in x there;
    places = λ x none uncut apart. refl;
    behind = λ x d e. e;
    held = λ s x none. refl;
    freed = λ s x there. none_in x there;
    owners = λ x. refl;
    orphans = λ x. refl;
    overs = λ x. refl;
    roots = λ r ne. (
      refl,
      word_at-with_word w.memory (Used setting.root) 0 (Used r) some ∙ ap (λ (q : Bool). cond q (Some 0) (word_at w.memory (Used r))) (ne_eqb r setting.root ne),
    );
    slots = refl;
    uses = refl;
    rows = refl;
  }
