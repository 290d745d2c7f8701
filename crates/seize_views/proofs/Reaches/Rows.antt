-- What a row has at hand: nothing, the block that it is to put on another one's list, or the words of a settling.
use Rattle.std.proofs.Common.{◌≡◌, ℕ, ◌+◌, ◌<◌, Bool, true, false, eqb, List, [], ◌∷◌, inl, inr, refl, arith, ap, ◌∙◌}
use Rattle.std.proofs.lemmas.Bool.{cases_eq}
use Rattle.seize.specs.declared.rows.settle.Settle.{Settle}
use Rattle.seize.specs.declared.rows.settle.Settling.{Settling}
use Rattle.seize.specs.declared.rows.settle.Settling.TheVariants as at
use Rattle.seize.specs.declared.rows.leave.Leave.{Leave}
use Rattle.seize.specs.declared.rows.leave.Leaving.{Leaving}
use Rattle.seize.specs.declared.rows.leave.Leaving.TheVariants as leaving
use Rattle.seize.specs.declared.rows.defer.Defer.{Defer}
use Rattle.seize.specs.declared.rows.defer.Deferring.{Deferring}
use Rattle.seize.specs.declared.rows.defer.Deferring.TheVariants as deferring
use Rattle.seize.specs.declared.rows.register.Registering.{Registering}
use Rattle.seize.specs.declared.rows.register.Registering.TheVariants as registering
use Rattle.seize.specs.World.{Row, Rests, Registers, Enters, Settles, Leaves, Defers, Frees}
use Rattle.seize_acts.specs.Given.SeizeWaitingHeld.{count}
use Rattle.seize_acts.proofs.Given.SeizeMovesState.Ghost.{State, IsDeferring}
use Rattle.seize_acts.proofs.Given.SeizeMemoryWords.Named.{link}
use Rattle.seize_acts.proofs.Given.SeizeMemoryWords.Chains.{Chain, first_or, last_of}
use Rattle.seize_acts.proofs.Given.SeizeMemoryWords.Shows.{Extra}
use Rattle.seize_acts.proofs.Given.SeizeMemoryWords.View.{View}
use Rattle.seize_acts.proofs.Given.SeizeRulePoints.Known.{Common, MayHold, open_blocks, Shuts, Backs, FirstsOf, FitsAt, Empty, bare}
use Rattle.seize_acts.proofs.Given.SeizeRuleRows.Known.{OverIs, FitsRegister, FitsLeave, FitsDefer, FitsRow}
use Rattle.seize_views.specs.Reaches.Reached.{in_work, words_of_settling, words_of_leaving, words_of_row}

module _ (n i : ℕ) (f : View) (m : State) (x : Extra) where
  -- ---- a settling, by where it stands
  module _ (c : Settle) where
    -- its words are those of its lists

    first_common : (block : ℕ) (t : Bool) → FirstsOf t n i m x c block → Common n i m x c
    first_common block true r = r.retiring.rest.common
    first_common block false r = r.putting.common

    pub common : (p : Settling) → FitsAt n i f m x c p → Common n i m x c
    common at.Sees r = r.retiring.rest.common
    common at.Holds r = r.retiring.rest.common
    common at.Pops r = r.retiring.rest.common
    common (at.Firsts block) r = first_common block (eqb block 0) r
    common (at.Batches block) r = r.putting.common
    common (at.Ends block) r = r.batches.putting.common
    common (at.Appends block) r = r.ends.batches.putting.common
    common (at.Counts block) r = r.putting.common
    common (at.Scans slot block marks) r = r.tries.common
    common (at.Marks slot block marks) r = r.tries.common
    common (at.Marked slot block marks) r = r.tries.common
    common (at.Closes marks) r = r.tries.common
    common (at.Reads block left pushed) r = r.shuts.common
    common (at.Links block left pushed slot head) r = r.reads.shuts.common
    common (at.Pushes block left pushed slot head) r = r.links.reads.shuts.common
    common (at.Pushed block left pushed) r = r.shuts.common
    common (at.Sums pushed) r = r.shuts.common
    common at.Nexts r = r.rest.common
    common (at.Drains next word) r = r.backs.common
    common (at.Joins next more) r = r.drains.backs.common
    common (at.Tails next) r = r.backs.common
    common (at.Takes next) r = r.backs.common
    common at.Puts r = r.common
    common at.Lists r = r.rest.common
    common (at.Owns next) r = r.lists.rest.common
    common (at.Downs next batch) r = r.owns.lists.rest.common
    common at.Gives r = r.rest.common
    common at.Over r = r.rest.common

    -- what is to be retired stands in its list, or is on its way into the batch
    pub data IsPopped (p : Settling) : Type 0 where
      NotYet : x.popped i ≡ false → IsPopped p
      OnItsWay : (b : ℕ) (bs : List ℕ) → x.popped i ≡ true → m.pending i ≡ b ∷ bs → in_work p ≡ link b → 0 < b → IsPopped p

    first_popped : (block : ℕ) (t : Bool) → FirstsOf t n i m x c block → IsPopped (at.Firsts block)
    first_popped block true r = NotYet r.retiring.rest.popped
    first_popped block false r = OnItsWay r.b r.bs r.putting.popped r.putting.pending r.putting.block_is r.putting.some_block

    pub popped : (p : Settling) → FitsAt n i f m x c p → IsPopped p
    popped at.Sees r = NotYet r.retiring.rest.popped
    popped at.Holds r = NotYet r.retiring.rest.popped
    popped at.Pops r = NotYet r.retiring.rest.popped
    popped (at.Firsts block) r = first_popped block (eqb block 0) r
    popped (at.Batches block) r = OnItsWay r.b r.bs r.putting.popped r.putting.pending r.putting.block_is r.putting.some_block
    popped (at.Ends block) r =
        let a = r.batches in OnItsWay a.b a.bs a.putting.popped a.putting.pending a.putting.block_is a.putting.some_block
    popped (at.Appends block) r =
        let a = r.ends.batches in OnItsWay a.b a.bs a.putting.popped a.putting.pending a.putting.block_is a.putting.some_block
    popped (at.Counts block) r = OnItsWay r.b r.bs r.putting.popped r.putting.pending r.putting.block_is r.putting.some_block
    popped (at.Scans slot block marks) r = NotYet r.tries.popped
    popped (at.Marks slot block marks) r = NotYet r.tries.popped
    popped (at.Marked slot block marks) r = NotYet r.tries.popped
    popped (at.Closes marks) r = NotYet r.tries.popped
    popped (at.Reads block left pushed) r = NotYet r.shuts.popped
    popped (at.Links block left pushed slot head) r = NotYet r.reads.shuts.popped
    popped (at.Pushes block left pushed slot head) r = NotYet r.links.reads.shuts.popped
    popped (at.Pushed block left pushed) r = NotYet r.shuts.popped
    popped (at.Sums pushed) r = NotYet r.shuts.popped
    popped at.Nexts r = NotYet r.rest.popped
    popped (at.Drains next word) r = NotYet r.backs.popped
    popped (at.Joins next more) r = NotYet r.drains.backs.popped
    popped (at.Tails next) r = NotYet r.backs.popped
    popped (at.Takes next) r = NotYet r.backs.popped
    popped at.Puts r = NotYet r.popped
    popped at.Lists r = NotYet r.rest.popped
    popped (at.Owns next) r = NotYet r.lists.rest.popped
    popped (at.Downs next batch) r = NotYet r.owns.lists.rest.popped
    popped at.Gives r = NotYet r.rest.popped
    popped at.Over r = NotYet r.rest.popped

    -- of a batch that it closes it has the first block
    module _ (y : ℕ) (closes : m.closing i ≡ y + 1) where
      abbrev HasFirst : Type 0
      HasFirst = c.first ≡ first_or 0 (m.blocks y)

      none_closed : m.closing i ≡ 0 → HasFirst
      none_closed e = absurd (omega (arith, e, closes))

      shut_first : (z left pushed : ℕ) (rs ts : List ℕ) (aimed : Bool) → Shuts n i m x c z rs ts aimed left pushed → HasFirst
      shut_first z left pushed rs ts aimed r =
          let same : z ≡ y = let k = r.closing in omega (arith, k, closes) in r.first ∙ ap (λ (b : ℕ). first_or 0 (m.blocks b)) same

      first_first : (block : ℕ) (t : Bool) → FirstsOf t n i m x c block → HasFirst
      first_first block true r = none_closed r.retiring.rest.closing
      first_first block false r = none_closed r.putting.closing

      pub closing_first : (p : Settling) → FitsAt n i f m x c p → HasFirst
      closing_first at.Sees r = none_closed r.retiring.rest.closing
      closing_first at.Holds r = none_closed r.retiring.rest.closing
      closing_first at.Pops r = none_closed r.retiring.rest.closing
      closing_first (at.Firsts block) r = first_first block (eqb block 0) r
      closing_first (at.Batches block) r = none_closed r.putting.closing
      closing_first (at.Ends block) r = none_closed r.batches.putting.closing
      closing_first (at.Appends block) r = none_closed r.ends.batches.putting.closing
      closing_first (at.Counts block) r = none_closed r.putting.closing
      closing_first (at.Scans slot block marks) r = none_closed r.tries.closing
      closing_first (at.Marks slot block marks) r = none_closed r.tries.closing
      closing_first (at.Marked slot block marks) r = none_closed r.tries.closing
      closing_first (at.Closes marks) r = none_closed r.tries.closing
      closing_first (at.Reads block left pushed) r = shut_first r.y left pushed (r.d ∷ r.rs) (r.t ∷ r.ts) false r.shuts
      closing_first (at.Links block left pushed slot head) r =
          let a = r.reads in shut_first a.y left pushed (a.d ∷ a.rs) (a.t ∷ a.ts) true a.shuts
      closing_first (at.Pushes block left pushed slot head) r =
          let a = r.links.reads in shut_first a.y left pushed (a.d ∷ a.rs) (a.t ∷ a.ts) true a.shuts
      closing_first (at.Pushed block left pushed) r = shut_first r.y left pushed (r.e ∷ r.rs) (r.t ∷ r.ts) false r.shuts
      closing_first (at.Sums pushed) r = shut_first r.y 0 pushed r.rs [] false r.shuts
      closing_first at.Nexts r = none_closed r.rest.closing
      closing_first (at.Drains next word) r = none_closed r.backs.closing
      closing_first (at.Joins next more) r = none_closed r.drains.backs.closing
      closing_first (at.Tails next) r = none_closed r.backs.closing
      closing_first (at.Takes next) r = none_closed r.backs.closing
      closing_first at.Puts r = none_closed r.closing
      closing_first at.Lists r = none_closed r.rest.closing
      closing_first (at.Owns next) r = none_closed r.lists.rest.closing
      closing_first (at.Downs next batch) r = none_closed r.owns.lists.rest.closing
      closing_first at.Gives r = none_closed r.rest.closing
      closing_first at.Over r = none_closed r.rest.closing

    -- of the batch that it holds it has the last one
    module _ (holds : c.held ≡ true) where
      abbrev HasLast : Type 0
      HasLast = c.last ≡ link (last_of (open_blocks m c))

      holding : (t : Bool) → t ≡ true → MayHold t i m x c → HasLast
      holding true e h = h.last
      holding false e h = absurd (cc e)

      not_held : c.held ≡ false → HasLast
      not_held e = absurd (cc (e, holds))

      first_last : (block : ℕ) (t : Bool) → FirstsOf t n i m x c block → HasLast
      first_last block true r = holding c.held holds r.retiring.rest.batch
      first_last block false r = r.putting.batch.last

      pub held_last : (p : Settling) → FitsAt n i f m x c p → HasLast
      held_last at.Sees r = not_held r.retiring.holds
      held_last at.Holds r = not_held r.retiring.holds
      held_last at.Pops r = holding c.held holds r.retiring.rest.batch
      held_last (at.Firsts block) r = first_last block (eqb block 0) r
      held_last (at.Batches block) r = r.putting.batch.last
      held_last (at.Ends block) r = r.batches.putting.batch.last
      held_last (at.Appends block) r = r.ends.batches.putting.batch.last
      held_last (at.Counts block) r = r.putting.batch.last
      held_last (at.Scans slot block marks) r = r.tries.batch.last
      held_last (at.Marks slot block marks) r = r.tries.batch.last
      held_last (at.Marked slot block marks) r = r.tries.batch.last
      held_last (at.Closes marks) r = r.tries.batch.last
      held_last (at.Reads block left pushed) r = r.shuts.batch.last
      held_last (at.Links block left pushed slot head) r = r.reads.shuts.batch.last
      held_last (at.Pushes block left pushed slot head) r = r.links.reads.shuts.batch.last
      held_last (at.Pushed block left pushed) r = r.shuts.batch.last
      held_last (at.Sums pushed) r = r.shuts.batch.last
      held_last at.Nexts r = holding c.held holds r.rest.batch
      held_last (at.Drains next word) r = holding c.held holds r.backs.batch
      held_last (at.Joins next more) r = holding c.held holds r.drains.backs.batch
      held_last (at.Tails next) r = holding c.held holds r.backs.batch
      held_last (at.Takes next) r = holding c.held holds r.backs.batch
      held_last at.Puts r = holding c.held holds r.batch
      held_last at.Lists r = holding c.held holds r.rest.batch
      held_last (at.Owns next) r = holding c.held holds r.lists.rest.batch
      held_last (at.Downs next batch) r = holding c.held holds r.owns.lists.rest.batch
      held_last at.Gives r = holding c.held holds r.rest.batch
      held_last at.Over r = holding c.held holds r.rest.batch

    -- The list of a block that it is to take is as it was, if something stands there.
    module _ (t : ℕ) (mine : count t (m.left i) ≡ 0 → ⊥) (some : m.deferred t ≡ [] → ⊥) (chain : Chain 0 f.nexts (x.lefts i) (m.left i)) where
      abbrev IsAsItWas : Type 0
      IsAsItWas = x.drained t ≡ false

      no_list : (l : List ℕ) (word : ℕ) → Chain 0 f.nexts word l → word ≡ 0 → count t l ≡ 0
      no_list [] word k none = refl
      no_list (d ∷ l) word k none = let p = k.0 in let e = k.1 in absurd (omega (arith, p, e, none))

      none_left : Common n i m x c → c.reclaiming ≡ 0 → IsAsItWas
      none_left r e = absurd (mine (no_list (m.left i) (x.lefts i) chain (r.lefts ∙ e)))

      -- it is the first of them, or one behind
      back_first : (b next : ℕ) (bs : List ℕ) → Backs n i m x c b bs next → (t ≡ b → IsAsItWas) → IsAsItWas
      back_first b next bs r here = elim (cases_eq t b) as (λ _. IsAsItWas) [
        | inl is ↦ here is
        | inr ne ↦ r.fresh t (behind ne)
      ]
        where
          behind : (t ≡ b → ⊥) → 0 < count t bs
          behind ne = let k : count t (m.left i) ≡ count t (b ∷ bs) = ap (count t) r.left in
              positive (λ z. mine (k ∙ grind (arith, z, ne)))
            where
              positive : (count t bs ≡ 0 → ⊥) → 0 < count t bs
              positive q = omega (arith, q)

      gone : (b next : ℕ) (bs : List ℕ) → Backs n i m x c b bs next → m.deferred b ≡ [] → IsAsItWas
      gone b next bs r none = back_first b next bs r (λ is. absurd (some (ap m.deferred is ∙ none)))

      first_undrained : (block : ℕ) (y : Bool) → FirstsOf y n i m x c block → IsAsItWas
      first_undrained block true r = none_left r.retiring.rest.common r.retiring.none_left
      first_undrained block false r = none_left r.putting.common r.putting.none_left

      pub undrained : (p : Settling) → FitsAt n i f m x c p → IsAsItWas
      undrained at.Sees r = none_left r.retiring.rest.common r.retiring.none_left
      undrained at.Holds r = none_left r.retiring.rest.common r.retiring.none_left
      undrained at.Pops r = none_left r.retiring.rest.common r.retiring.none_left
      undrained (at.Firsts block) r = first_undrained block (eqb block 0) r
      undrained (at.Batches block) r = none_left r.putting.common r.putting.none_left
      undrained (at.Ends block) r = none_left r.batches.putting.common r.batches.putting.none_left
      undrained (at.Appends block) r = none_left r.ends.batches.putting.common r.ends.batches.putting.none_left
      undrained (at.Counts block) r = none_left r.putting.common r.putting.none_left
      undrained (at.Scans slot block marks) r = none_left r.tries.common r.tries.none_left
      undrained (at.Marks slot block marks) r = none_left r.tries.common r.tries.none_left
      undrained (at.Marked slot block marks) r = none_left r.tries.common r.tries.none_left
      undrained (at.Closes marks) r = none_left r.tries.common r.tries.none_left
      undrained (at.Reads block left pushed) r = none_left r.shuts.common r.shuts.none_left
      undrained (at.Links block left pushed slot head) r = none_left r.reads.shuts.common r.reads.shuts.none_left
      undrained (at.Pushes block left pushed slot head) r = none_left r.links.reads.shuts.common r.links.reads.shuts.none_left
      undrained (at.Pushed block left pushed) r = none_left r.shuts.common r.shuts.none_left
      undrained (at.Sums pushed) r = none_left r.shuts.common r.shuts.none_left
      undrained at.Nexts r = r.fresh t (let q = mine in omega (arith, q))
      undrained (at.Drains next word) r = back_first r.b next r.bs r.backs (λ is. ap x.drained is ∙ r.drained)
      undrained (at.Joins next more) r =
          let a = r.drains in back_first a.b next a.bs a.backs (λ is. ap x.drained is ∙ a.drained)
      undrained (at.Tails next) r = gone r.b next r.bs r.backs r.none
      undrained (at.Takes next) r = gone r.b next r.bs r.backs r.none
      undrained at.Puts r = none_left r.common r.none_left
      undrained at.Lists r = none_left r.rest.common r.none_left
      undrained (at.Owns next) r = none_left r.lists.rest.common r.lists.none_left
      undrained (at.Downs next batch) r = none_left r.owns.lists.rest.common r.owns.lists.none_left
      undrained at.Gives r = none_left r.rest.common r.none_left
      undrained at.Over r = none_left r.rest.common r.none_left

  -- ---- a row
  pub data HasAtHand (row : Row) : Type 0 where
    HasNone : Empty i m x → m.defers i ≡ 0 → HasAtHand row
    HasBlock : Empty i m x → (b s t : ℕ) → words_of_row row ≡ link b ∷ [] → 0 < b → m.life b ≡ IsDeferring i s t → HasAtHand row
    HasSettling : (c : Settle) → FitsAt n i f m x (bare c) c.stands → words_of_row row ≡ words_of_settling c → HasAtHand row

  registering_none : (k s : ℕ) (row : Row) (p : Registering) → FitsRegister n i m x k s p → HasAtHand row
  registering_none k s row registering.Begin r = HasNone r.idles.empty r.idles.outside.defers
  registering_none k s row registering.Look r = HasNone r.idles.empty r.idles.outside.defers
  registering_none k s row (registering.Widen bucket seen) r = let a = r.sees.looks.idles in HasNone a.empty a.outside.defers
  registering_none k s row (registering.Take seen) r = let a = r.sees.looks.idles in HasNone a.empty a.outside.defers
  registering_none k s row registering.Enter r = HasNone r.idles.empty r.idles.outside.defers
  registering_none k s row registering.Registered r = absurd r
  registering_none k s row (registering.Refused fault) r = absurd r

  over_none : (row : Row) (frees : Bool) (s becomes : ℕ) → OverIs frees n i m x s becomes → HasAtHand row
  over_none row true s becomes r = HasNone r.0.empty r.0.outside.defers
  over_none row false s becomes r = HasNone r.2.idles.empty r.2.idles.outside.defers

  leaving_has : (c : Leave) (p : Leaving) → c.stands ≡ p → FitsLeave n i f m x c.slot c.becomes c.frees p → HasAtHand (Leaves c)
  leaving_has c leaving.Swaps e r = HasNone r.on.idles.empty r.on.idles.outside.defers
  leaving_has c (leaving.Settles settle) e r = HasSettling settle r.settles (ap words_of_leaving e)
  leaving_has c leaving.Frees e r = HasNone r.on.idles.empty r.on.idles.outside.defers
  leaving_has c leaving.Over e r = over_none (Leaves c) c.frees c.slot c.becomes r

  deferring_has : (s : ℕ) (c : Defer) (p : Deferring) → FitsDefer n i f m x s c.block c.table_word p → HasAtHand (Defers s c)
  deferring_has s c deferring.Reads r = HasBlock r.empty r.b s r.t (ap (λ (k : ℕ). k ∷ []) r.block_is) r.some r.life
  deferring_has s c (deferring.Links head) r = HasBlock r.empty r.b s r.t (ap (λ (k : ℕ). k ∷ []) r.block_is) r.some r.life
  deferring_has s c (deferring.Pushes head) r =
      let a = r.on in HasBlock a.empty a.b s a.t (ap (λ (k : ℕ). k ∷ []) a.block_is) a.some a.life
  deferring_has s c deferring.Over r = HasNone r.empty r.none

  pub at_hand : (k : ℕ) (row : Row) → FitsRow n i f m x k row → HasAtHand row
  at_hand k Rests r = HasNone r.empty r.outside.defers
  at_hand k (Registers c) r = registering_none k c.slot (Registers c) c.stands r
  at_hand k (Enters c) r = HasNone r.idles.empty r.idles.outside.defers
  at_hand k (Settles c) r = HasSettling c r refl
  at_hand k (Leaves c) r = leaving_has c c.stands refl r
  at_hand k (Defers s c) r = deferring_has s c c.stands r
  at_hand k (Frees c) r = HasNone r.idles.empty r.idles.outside.defers
