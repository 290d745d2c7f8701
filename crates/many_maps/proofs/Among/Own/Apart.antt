-- What the deed of an end is done to is its map's, or left over to its caller: each block that is apart from these is as it was.
use Rattle.std.specs.Prelude.{◌≢◌, Some}
use Rattle.std.proofs.Common.{◌≡◌, ℕ, ◌<◌, ◌≤◌, Bool, true, false, List, [], ◌∷◌, ◌⊎◌, inl, inr, refl, arith, ap, sym, subst, ◌∙◌}
use Rattle.many_calls.specs.Given.SeizeWordsDeclared.at.At.TheVariants.{Entry, Word}
use Rattle.many_calls.specs.Given.SeizeWordsMem.{value_at, word_at}
use Rattle.many_calls.specs.Given.SeizeDeclared.states.TheConstants.{NEXT}
use Rattle.many_calls.specs.Given.SeizeLaw.{With, where_is, holds, owner_of}
use Rattle.many_calls.specs.Given.SeizeWorld.{World, InUse, Handed, LeftTo, times}
use Rattle.many_calls.proofs.Given.SeizeAloneHistories.Further.{none_behind}
use Rattle.many_calls.specs.Given.TablesNodes.{deferred_word}
use Rattle.many_calls.specs.Given.TablesDeclared.node.Node.{Node}
use Rattle.many_calls.specs.Given.TablesDeclared.node.Node.TheVariants as node
use Rattle.many_calls.specs.Given.RuleInWorld.{IsHeldBy, PreservesBlocks}
use Rattle.many_calls.specs.Kept.{IsMaking}
use Rattle.many_calls.specs.Together.{CameAbout}
use Rattle.many_calls.proofs.Rows.Behind.{behind_handed}
use Rattle.many_calls.proofs.Together.Came.{came_reached}
use Rattle.many_maps.specs.Endings.{Finishing, HasCounter, FinishingFacts}
use Rattle.many_maps.specs.FactsEnds.{Deed, Looks, TakesPair, LeavesTable, JoinsPair, TakesLeft, TakesCounter, WritesRoot, taken_by, left_by, cut_by, joined_by, Spares, IsItsDeed, IsFresh}
use Rattle.many_maps.proofs.Ends.CountedBlocks.{times_other}
use Rattle.many_maps.proofs.Ends.OrdersOnce.{plain_order, pair_there}
use Rattle.many_maps.proofs.Ends.SinceOn.{handed_stays}
use Rattle.many_calls.proofs.Given.General.{none_less as none_of}

-- another one than the first, and none of the others
pub none_in_both : (x b : ℕ) (l : List ℕ) → x ≢ b → (0 < times x l → ⊥) → times x (b ∷ l) ≡ 0
none_in_both x b l ne none = times_other x b l ne ∙ none_of (times x l) none

-- nothing was done to the block
pub record IsUndone (deed : Deed) (x : ℕ) : Type 0 where
  pub taken : times x (taken_by deed) ≡ 0
  pub left : times x (left_by deed) ≡ 0
  pub cut : times x (cut_by deed) ≡ 0
  pub joined : times x (joined_by deed) ≡ 0

module _ {K V : Type 0} (w : World (Node K V)) (i : ℕ) (f : Finishing K V) where
  -- The block is none of the map's that ends, nor left over to the caller that ends it. Once the counter was reclaimed, its number tells nothing.
  pub record IsApart (b : ℕ) : Type 0 where
    pub not_left : w.hand b ≢ LeftTo i
    pub not_counter : HasCounter f → b ≢ f.setting.counter
    pub not_owned : HasCounter f → (w.hand b ≡ InUse f.setting.counter) ⊎ (w.hand b ≡ Handed) → owner_of b w.log ≢ f.setting.counter

  -- what some holder made or took out is apart, unless it is the counter
  pub held_apart : (b j : ℕ) → IsHeldBy j (w.hand b) → (HasCounter f → b ≢ f.setting.counter) → IsApart b
  held_apart b j held other = record { not_left = λ e. subst (IsHeldBy j) e held; not_counter = other; not_owned = λ has of. absurd (not_out of) }
    where
      not_out : (w.hand b ≡ InUse f.setting.counter) ⊎ (w.hand b ≡ Handed) → ⊥
      not_out (inl e) = subst (IsHeldBy j) e held
      not_out (inr e) = subst (IsHeldBy j) e held

  pub making_apart : (b : ℕ) → IsMaking (w.hand b) → (HasCounter f → b ≢ f.setting.counter) → IsApart b
  making_apart b making other = record { not_left = λ e. subst IsMaking e making; not_counter = other; not_owned = λ has of. absurd (not_out of) }
    where
      not_out : (w.hand b ≡ InUse f.setting.counter) ⊎ (w.hand b ≡ Handed) → ⊥
      not_out (inl e) = subst IsMaking e making
      not_out (inr e) = subst IsMaking e making

  -- a block in use that is the map's is another one
  used_apart : (b : ℕ) → HasCounter f → w.hand b ≡ InUse f.setting.counter → owner_of b w.log ≡ f.setting.counter → (x : ℕ) → IsApart x → x ≢ b
  used_apart b has used owner x apart e = apart.not_owned has (inl (ap w.hand e ∙ used)) (ap (λ (y : ℕ). owner_of y w.log) e ∙ owner)

  left_apart : (b : ℕ) → w.hand b ≡ LeftTo i → (x : ℕ) → IsApart x → x ≢ b
  left_apart b left x apart e = apart.not_left (ap w.hand e ∙ left)

module _ {K V : Type 0} (same : K → K → Bool) (batch_size : ℕ) (w : World (Node K V)) (i : ℕ) (f : Finishing K V) (facts : FinishingFacts same batch_size w i f) where
  -- what a deed reclaims or leaves over was not reclaimed before
  abbrev pub DoesNew : Deed → Type 0
  DoesNew deed = IsFresh f.setting f.chart f.blocks facts.lists false f.back deed

  -- and it is done to what the map has
  abbrev pub DoesIts : ℕ → Deed → Type 0
  DoesIts past2 deed = IsItsDeed f.setting f.chart f.blocks facts.lists false i w facts.past past2 deed

  -- a deed of the end led to a second world
  pub record Did (w2 : World (Node K V)) : Type 0 where
    pub deed : Deed
    pub past2 : ℕ
    pub came : CameAbout batch_size w
    pub came2 : CameAbout batch_size w2
    pub fresh : DoesNew deed
    pub spares : Spares f.setting i w w2 deed
    pub its : DoesIts past2 deed

  -- a pair that is reclaimed is the map's
  pair_owner : (b n : ℕ) → times b f.back ≡ 0 → f.chart.current n ≡ true → b ≡ f.blocks.pair n → owner_of b w.log ≡ f.setting.counter
  pair_owner b n fresh current named =
      ap (λ (y : ℕ). owner_of y w.log) named ∙ (facts.facts.since.pairs n current (subst (λ (y : ℕ). times y f.back ≡ 0) named fresh)).0.owner_is

  -- and so is a table that is left over, and what is behind it
  table_owner : (b t : ℕ) → times b f.back ≡ 0 → f.chart.first ≤ t → t < f.chart.past → b ≡ f.blocks.table t → owner_of b w.log ≡ f.setting.counter
  table_owner b t fresh from made named =
      ap (λ (y : ℕ). owner_of y w.log) named ∙ (facts.facts.since.tables t from made (subst (λ (y : ℕ). times y f.back ≡ 0) named fresh)).still.owner_is

  behind_owner : (b x : ℕ) → f.chart.first ≤ facts.past → facts.past < f.chart.past → b ≡ f.blocks.table facts.past → where_is x w.log ≡ With b → owner_of x w.log ≡ f.setting.counter
  behind_owner b x from made named at = (facts.theirs facts.past x from (omega arith) made (at ∙ ap With named)).owner_is

  -- nothing is done to a block that is apart
  undone : (past2 : ℕ) (deed : Deed) → DoesNew deed → DoesIts past2 deed → (x : ℕ) → IsApart w i f x → IsUndone deed x
  undone past2 Looks fresh its x apart = record { taken = refl; left = refl; cut = refl; joined = refl }
  undone past2 (TakesPair b) fresh (is, used, n, current, named) x apart =
      let none = times_other x b [] (used_apart w i f b fresh.1 used (pair_owner b n fresh.0 current named) x apart) in record { taken = none; left = refl; cut = none; joined = refl }
  undone past2 (LeavesTable b further) fresh (is, used, behind, from, made, named, list) x apart =
      let ne = used_apart w i f b fresh.1 used (table_owner b facts.past fresh.0 from made named) x apart in
      record {
        taken = refl;
        left = none_in_both x b further ne (λ on. let k = behind.theirs x on in apart.not_owned fresh.1 (inr k.0) (behind_owner b x from made named k.1));
        cut = times_other x b [] ne;
        joined = refl;
      }
  undone past2 (JoinsPair b word) fresh (is, left, waits) x apart = record { taken = refl; left = refl; cut = refl; joined = times_other x b [] (left_apart w i f b left x apart) }
  undone past2 (TakesLeft b) fresh (is, left, which) x apart = record { taken = times_other x b [] (left_apart w i f b left x apart); left = refl; cut = refl; joined = refl }
  undone past2 (TakesCounter b) fresh (is, named, making) x apart =
      record { taken = times_other x b [] (λ e. apart.not_counter (subst (λ (y : ℕ). times y f.back ≡ 0) named fresh) (e ∙ named)); left = refl; cut = refl; joined = refl }
  undone past2 (WritesRoot at word) fresh its x apart = record { taken = refl; left = refl; cut = refl; joined = refl }

  -- nothing lies behind a pair of the map
  none_with_pair : CameAbout batch_size w → (b n : ℕ) → times b f.back ≡ 0 → f.chart.current n ≡ true → b ≡ f.blocks.pair n → (x : ℕ) → where_is x w.log ≡ With b → ⊥
  none_with_pair came b n fresh current named x at =
      let y = facts.facts.since.pairs n current (subst (λ (z : ℕ). times z f.back ≡ 0) named fresh) in
      let order = plain_order f.setting f.chart f.blocks same f.hash f.began facts.stood.map facts.stood.counter in
      let p = (pair_there same f.hash facts.lawful f.setting f.chart f.blocks (λ t. []) false f.began order n current).3 in
      none_behind deferred_word w (came_reached batch_size w came).good (f.blocks.pair n) y.1.1 x (node.Pair p.0 p.1) (y.0.value ∙ p.2) refl (at ∙ ap With named)

  -- a block that is apart is not behind one that is unlinked
  behind_uncut : CameAbout batch_size w → (past2 : ℕ) (deed : Deed) → DoesNew deed → DoesIts past2 deed → (x : ℕ) → IsApart w i f x → (b : ℕ) → where_is x w.log ≡ With b
      → times b (cut_by deed) ≡ 0
  behind_uncut came past2 Looks fresh its x apart b at = refl
  behind_uncut came past2 (TakesPair d) fresh (is, used, n, current, named) x apart b at = times_other b d [] (λ e. none_with_pair came d n fresh.0 current named x (at ∙ ap With e))
  behind_uncut came past2 (LeavesTable d further) fresh (is, used, behind, from, made, named, list) x apart b at = times_other b d [] (λ e. with_it (at ∙ ap With e))
    where
      with_it : where_is x w.log ≡ With d → ⊥
      with_it e = apart.not_owned fresh.1 (inr (behind.theirs x (behind.all x e)).0) (behind_owner d x from made named e)
  behind_uncut came past2 (JoinsPair d word) fresh its x apart b at = refl
  behind_uncut came past2 (TakesLeft d) fresh its x apart b at = refl
  behind_uncut came past2 (TakesCounter d) fresh its x apart b at = refl
  behind_uncut came past2 (WritesRoot place word) fresh its x apart b at = refl

  module _ (w2 : World (Node K V)) (did : Did w2) where
    -- what lies behind another block keeps its value
    pub behind_value : (x b : ℕ) → where_is x w.log ≡ With b → value_at w2.memory x ≡ value_at w.memory x
    behind_value x b at =
        did.spares.values x (handed_stays f.setting f.chart f.blocks facts.lists false i w w2 facts.past did.deed did.past2 did.its x
        (behind_handed deferred_word batch_size w (came_reached batch_size w did.came) x b at))

    -- a block is as it was: its value, its words and its link, who has it, how it can be reached, and which sections hold it
    pub record IsAsBefore (x : ℕ) : Type 0 where
      pub value : value_at w2.memory x ≡ value_at w.memory x
      pub words : (field : ℕ) → word_at w2.memory (Word x field) ≡ word_at w.memory (Word x field)
      pub link : word_at w2.memory (Entry x NEXT) ≡ word_at w.memory (Entry x NEXT)
      pub hand : w2.hand x ≡ w.hand x
      pub place : where_is x w2.log ≡ where_is x w.log
      pub held : (s : ℕ) → holds s x w2.log ≡ holds s x w.log

    pub as_before : (x : ℕ) → IsApart w i f x → IsAsBefore x
    as_before x apart =
        let none = undone did.past2 did.deed did.fresh did.its x apart in
        record {
          value = did.spares.values x none.taken;
          words = λ field. did.spares.words x field none.taken;
          link = did.spares.links x none.taken none.joined;
          hand = did.spares.hands x none.taken none.left;
          place = did.spares.places x none.taken none.cut (behind_uncut did.came did.past2 did.deed did.fresh did.its x apart);
          held = λ s. did.spares.held s x none.taken;
        }

    -- what a holder has is not the map's counter, which is none of its blocks
    not_shards : (b : ℕ) (value : Node K V) → value_at w.memory b ≡ Some value → value ≢ node.Shards → HasCounter f → b ≢ f.setting.counter
    not_shards b value is unlike has e = unlike (same_value (sym is ∙ ap (value_at w.memory) e ∙ (facts.facts.since.counter has).0))
      where
        same_value : {x y : Node K V} → Some x ≡ Some y → x ≡ y
        same_value e = cc e

    -- each holder keeps what it has
    pub keeps_all : (j : ℕ) → PreservesBlocks j w.memory w.hand w2.memory w2.hand
    keeps_all j = record {
      blocks = λ b value is unlike held. let k = as_before b (held_apart w i f b j held (not_shards b value is unlike)) in (k.hand, k.value ∙ is);
      words = λ b field value is unlike making. (as_before b (held_apart w i f b j (subst (IsHeldBy j) (sym making) refl) (not_shards b value is unlike))).words field;
    }
