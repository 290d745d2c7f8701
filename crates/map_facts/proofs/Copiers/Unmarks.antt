-- A copier, in incremental mode, that is refused takes its mark back.
use Rattle.std.specs.Prelude.{IsSome}
use Rattle.std.proofs.Common.{◌≡◌, ◌≢◌, ℕ, suc, ◌<◌, Bool, true, refl, ap, sym, subst, ◌∙◌, arith}
use Rattle.map_rule.specs.Given.SeizeWordsDeclared.fault.Fault.{Fault}
use Rattle.map_rule.specs.Given.SeizeWordsMem.{Mem, Can, Took, value_at, word_at, with_word}
use Rattle.map_rule.specs.Given.SeizeWordsOp.{Store, Stored}
use Rattle.map_rule.specs.Given.SeizeWordsPlan.{May, Steps}
use Rattle.map_rule.proofs.Given.SeizeWordsOneOwner.Operations.{may_store, stored}
use Rattle.papaya_raw.specs.Given.SeizeWorld.{World}
use Rattle.papaya_raw.specs.Given.TablesChunks.{is_incremental}
use Rattle.map_rule.specs.Given.ResizeCopierCounts.{unmarks, to}
use Rattle.map_rule.specs.Given.ResizeCopierStates.{standing}
use Rattle.papaya_raw.specs.Given.TablesTablePlaces.{at_place}
use Rattle.papaya_raw.specs.Given.TablesDeclared.node.Node.{Node}
use Rattle.papaya_raw.specs.Given.TablesDeclared.table.Table.{Table}
use Rattle.map_rule.specs.Given.ResizeDeclared.yielding.Yielding.{Yielding}
use Rattle.papaya_raw.specs.Given.TablesDeclared.setting.Setting.{Setting}
use Rattle.map_rule.specs.Given.ResizeDeclared.copier.Copier.{Copier}
use Rattle.map_rule.specs.Given.ResizeDeclared.copier.Copying.TheVariants as at
use Rattle.map_rule.specs.Chart.{Phase, Still, Copying, Place, Holds, Free, Claimed, Chart, put_in}
use Rattle.map_rule.specs.Rule.{IsLawful, total, is_of, names}
use Rattle.map_rule.specs.Moves.{Unmarks, still_place, is_done_by}
use Rattle.map_rule.specs.Words.{Blocks, place_word}
use Rattle.map_rule.specs.Maps.{spot_of, IsTable}
use Rattle.map_rule.specs.InWorld.{IsMapIn}
use Rattle.map_facts.specs.FactsCopies.{CopyingFacts, Copies, Works}
use Rattle.map_facts.specs.Told.{CopierOutcome}
use Rattle.map_rule.proofs.Shares.CopiersMoves.{table_beside, none_claimed}
use Rattle.map_rule.proofs.Shares.CopiersPlaces.{placed_hands, placed_shows}
use Rattle.map_facts.proofs.Copiers.CopiersWrote.{CopierPlain, copier_wrote}
use Rattle.map_rule.proofs.Moves.SamePairs.{SamePair, copying_keeps}
use Rattle.map_rule.proofs.Words.TablesSeen.{place_there}
use Rattle.map_rule.proofs.Moves.Totals.{total_put_in}
use Rattle.map_rule.proofs.Words.OwnWords.{own_at_place}
use Rattle.map_rule.proofs.Given.General.{some_is as is_some_of}

module _ {K V : Type 0} (same : K → K → Bool) (hash : K → ℕ) (caller : ℕ) (setting : Setting) (w : World (Node K V)) (c : Chart K) (blocks : Blocks)
    (map : IsMapIn same hash setting w c blocks) (p : Copier) (is : p.setting ≡ setting) (word : ℕ) (fault : Fault)
    (f : CopyingFacts same hash w caller setting c blocks p (at.Unmarks word fault)) where
  abbrev works : Works same hash w caller setting c blocks p f.0.0 f.0.1 word
  works = f.0.2

  there : IsSome (word_at w.memory (at_place p.source p.place))
  there = is_some_of _ _ (place_there hash w.memory c blocks setting.root map.map.shows p.source c.first works.copies.0 p.place works.in_range.0)

  pub may_unmarks : May Can Took value_at w.memory (unmarks p word fault)
  may_unmarks = may_store w.memory (λ out. to (standing p (at.Unclaims fault))) (at_place p.source p.place) word there tt

  -- the place, once its mark is taken back
  abbrev after_place : Place
  after_place = still_place (spot_of hash) true (c.place c.first p.place)

  keeps : SamePair (c.place c.first p.place) after_place
  keeps = rw works.place (copying_keeps f.0.0 Still works.borrowed)

  written : word ≡ place_word hash c blocks after_place
  written = works.word_is ∙ ap (place_word hash c blocks) (sym (ap (still_place (spot_of hash) true) works.place))

  pub went_unmarks : IsLawful same (spot_of hash) → is_incremental setting.mode ≡ true
      → (m2 : Mem (Node K V)) (end : Copier × Yielding (Node K V) Table) → Steps Took value_at w.memory (unmarks p word fault) m2 end → CopierPlain same hash caller setting w c blocks m2 end
  went_unmarks lawful bits m2 end steps =
      let s = stored w.memory (λ out. to (standing p (at.Unclaims fault))) (at_place p.source p.place) word m2 end steps in
      copier_wrote same hash caller setting w c blocks map bits lawful (Store (at_place p.source p.place) word) Stored (at_place p.source p.place)
      (place_word hash c blocks after_place)
      (own_at_place same hash setting w c blocks map caller p.source c.first p.place works.copies.0 works.in_range.0) there m2 tt
      (s.0 ∙ ap (with_word w.memory (at_place p.source p.place)) written) (ap (with_word w.memory (at_place p.source p.place)) (sym written))
      (Unmarks caller p.place) refl tt (refl, works.in_range.0, works.claims.0, none_put)
      (placed_shows same hash setting w c blocks map p.source works.copies.0 p.place after_place keeps (put_in c.share (suc c.first) p.place Free) works.in_range.0)
      refl
      (placed_hands same hash setting w c blocks map p.source works.copies.0 p.place after_place keeps (put_in c.share (suc c.first) p.place Free))
      refl end
      (subst (CopierOutcome (record w { memory = with_word w.memory (at_place p.source p.place) (place_word hash c blocks after_place) }) caller setting
      (record c { place = put_in c.place c.first p.place after_place; share = put_in c.share (suc c.first) p.place Free }) blocks same hash) (sym s.1)
      (record { setting_is = is; point = (c.first, copies, f.1, none_done, none) }))
    where
      entered : (table : Table) (t : ℕ) → IsTable c blocks table t
          → IsTable (record c { place = put_in c.place c.first p.place after_place; share = put_in c.share (suc c.first) p.place Free }) blocks table t
      entered = table_beside c (put_in c.place c.first p.place after_place) (put_in c.share (suc c.first) p.place Free) c.claim c.copied blocks

      copies : Copies same hash w caller setting (record c { place = put_in c.place c.first p.place after_place; share = put_in c.share (suc c.first) p.place Free }) blocks p c.first
      copies = (entered p.source c.first works.copies.0, entered p.target (suc c.first) works.copies.1, omega arith, λ l. f.1)

      none_put : (n : ℕ) (borrowed : Bool) (t j : ℕ) (phase : Phase) (borrowed2 : Bool) → c.place c.first p.place ≡ Holds n Copying borrowed → c.first < t
          → c.place t j ≢ Holds n phase borrowed2
      none_put n borrowed t j phase borrowed2 e later at =
          let alone = f.0.3 t j later in
          let pair : n ≡ f.0.0 = (let place = works.place in cc (place, e)) in
          let named : names same (spot_of hash) true c.key f.0.1 (c.place t j) ≡ is_of same (spot_of hash) true f.0.1 (c.key n) = ap (names same (spot_of hash) true c.key f.0.1) at in
          let own : is_of same (spot_of hash) true f.0.1 (c.key n) ≡ true = rw (pair, works.key) (lawful.classes.refl f.0.1) in
          cc (alone, named, own)

      none_done : 0 ≡ total (is_done_by caller) (put_in c.share (suc c.first) p.place Free (suc c.first)) (c.len c.first)
      none_done =
          let same_total = total_put_in (is_done_by caller) c.share (suc c.first) p.place Free (suc c.first) (c.len c.first) (rw works.claims.0 refl) in
          let done = works.has_done in let rests = f.1 in omega (arith, same_total, done, rests)

      none : (j : ℕ) → put_in c.share (suc c.first) p.place Free (suc c.first) j ≢ Claimed caller
      none = none_claimed c.share caller (suc c.first) p.place Free (λ e. cc e) works.claims.1
