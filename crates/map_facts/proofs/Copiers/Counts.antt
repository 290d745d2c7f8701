-- A copier, in incremental mode, counts what it has done: in turn, or before it takes its mark back.
use Rattle.std.specs.Prelude.{if◌then◌else◌, ◌==◌}
use Rattle.std.proofs.Common.{◌≡◌, ℕ, suc, ◌+◌, ◌%◌, ◌^◌, ◌<◌, Bool, true, false, ◌⊎◌, inl, inr, refl, ap, sym, subst, ◌∙◌, arith, eqb-true}
use Rattle.map_rule.specs.Given.SeizeWordsDeclared.fault.Fault.{Fault}
use Rattle.map_rule.specs.Given.SeizeWordsMem.{Mem, Can, Took, value_at, with_word}
use Rattle.map_rule.specs.Given.SeizeWordsPlan.{May, Steps, Ends}
use Rattle.map_rule.proofs.Given.SeizeWordsOneOwner.Operations.{may_add, added}
use Rattle.map_rule.proofs.Given.SeizeWordsPlans.{see_if}
use Rattle.papaya_raw.specs.Given.SeizeWorld.{World}
use Rattle.papaya_raw.specs.Given.TablesChunks.{is_incremental}
use Rattle.map_rule.specs.Given.ResizeCopierCounts.{counts, counted, tallies, to}
use Rattle.map_rule.specs.Given.ResizeCopierStates.{behind}
use Rattle.papaya_raw.specs.Given.TablesTablePlaces.{at_word}
use Rattle.papaya_raw.specs.Given.TablesDeclared.node.Node.{Node}
use Rattle.papaya_raw.specs.Given.TablesDeclared.table.Table.{Table}
use Rattle.papaya_raw.specs.Given.TablesDeclared.table_words.TheConstants.{COPIED}
use Rattle.map_rule.specs.Given.ResizeDeclared.yielding.Yielding.{Yielding}
use Rattle.map_rule.specs.Given.ResizeDeclared.yielding.Yielding.TheVariants.{Goes}
use Rattle.papaya_raw.specs.Given.TablesDeclared.setting.Setting.{Setting}
use Rattle.map_rule.specs.Given.ResizeDeclared.copier.Copier.{Copier}
use Rattle.map_rule.specs.Given.ResizeDeclared.copier.Copying.TheVariants as at
use Rattle.map_rule.specs.Chart.{Counted, Claimed, Chart}
use Rattle.map_rule.specs.Rule.{IsLawful}
use Rattle.map_rule.specs.Moves.{with_counted}
use Rattle.map_rule.specs.Words.{Blocks}
use Rattle.map_rule.specs.Maps.{spot_of}
use Rattle.map_rule.specs.InWorld.{IsMapIn}
use Rattle.map_facts.specs.FactsCopies.{CopyingFacts, ClaimsNone, Copies, Works}
use Rattle.map_facts.specs.Told.{CopierOutcome}
use Rattle.map_facts.specs.ToldMoves.{MovedCounts}
use Rattle.map_facts.proofs.Copiers.CopiersCounted.{counted_in, counted_here, counted_chart, counted_world, copied_word, no_wrap, entered_counted, none_left, claims_kept, count_wrote}
use Rattle.map_facts.proofs.Copiers.CopiersGoOn.{behind_facts}
use Rattle.map_facts.proofs.Copiers.CopiersWrote.{CopierMoved}
use Rattle.map_rule.proofs.Words.TablesSeen.{len_is}
use Rattle.map_rule.proofs.Moves.Totals.{total_full, total_with_counted}
use Rattle.map_rule.proofs.Given.General.{some_is as is_some_of}

module _ {K V : Type 0} (same : K → K → Bool) (hash : K → ℕ) (caller : ℕ) (setting : Setting) (w : World (Node K V)) (c : Chart K) (blocks : Blocks)
    (map : IsMapIn same hash setting w c blocks) (p : Copier) (is : p.setting ≡ setting) where
  module _ (f : CopyingFacts same hash w caller setting c blocks p at.Counts) where
    pub may_counts : May Can Took value_at w.memory (counts p)
    may_counts = may_add w.memory (counted p) (at_word p.target COPIED) p.done
        (is_some_of _ _ (copied_word same hash caller setting w c blocks map p f.0 f.2)) (λ found read. see_if _ ((found + p.done) % 2 ^ 64 == p.source.len) _ _ (λ full. tt) (λ left. tt))

    pub went_counts : IsLawful same (spot_of hash) → is_incremental setting.mode ≡ true
        → (m2 : Mem (Node K V)) (end : Copier × Yielding (Node K V) Table) → Steps Took value_at w.memory (counts p) m2 end → CopierMoved same hash caller setting w c blocks (MovedCounts hash caller c p) m2 end
    went_counts lawful bits m2 end steps =
        let s = added w.memory (counted p) (at_word p.target COPIED) p.done m2 end steps in
        count_wrote same hash caller setting w c blocks map p f.0 f.2 lawful bits m2 end s.0 s.1 s.2
        (λ e. told s.0 e (pick (with_word w.memory (at_word p.target COPIED) ((s.0 + p.done) % 2 ^ 64)) ((s.0 + p.done) % 2 ^ 64 == p.source.len) s.3))
      where
        pick : (m : Mem (Node K V)) (b : Bool)
            → Ends (value_at m) (if b then to (record p { place = 0; end = 0; done = 0; stands = at.Promotes }) else to (behind (record p { done = 0 }))) end
            → ((b ≡ true) × (end ≡ (record p { place = 0; end = 0; done = 0; stands = at.Promotes }, Goes))) ⊎ (end ≡ (behind (record p { done = 0 }), Goes))
        pick m true e = inl (refl, e)
        pick m false e = inr e

        none : ClaimsNone same hash (counted_world w c p) caller setting (counted_chart caller c p) blocks
        none = claims_kept same hash caller setting w c blocks map p f.0 f.2 (λ j. ⊥) f.3

        copies : Copies same hash (counted_world w c p) caller setting (counted_chart caller c p) blocks (record p { done = 0 }) c.first
        copies = (
          entered_counted same hash caller setting w c blocks map p f.0 f.2 p.source c.first f.0.0,
          entered_counted same hash caller setting w c blocks map p f.0 f.2 p.target (suc c.first) f.0.1,
          omega arith,
          λ l. refl,
        )

        all_counted : c.copied (suc c.first) + p.done ≡ c.len c.first → (j : ℕ) → j < c.len c.first → counted_in caller (suc c.first) c.share (suc c.first) j ≡ Counted
        all_counted full =
            let counts = map.map.rule.common.counts (suc c.first) (omega arith) f.0.1.made in
            let sum = total_with_counted caller (c.share (suc c.first)) (c.len c.first) in
            counted_here caller (suc c.first) c.share (λ d. (j : ℕ) → j < c.len c.first → d j ≡ Counted)
            (total_full (λ j. with_counted caller (c.share (suc c.first) j)) (c.len c.first) (omega (arith, counts, sum, full, f.2)))

        is_full : (found : ℕ) → found ≡ c.copied (suc c.first) → ((found + p.done) % 2 ^ 64 == p.source.len) ≡ true → c.copied (suc c.first) + p.done ≡ c.len c.first
        is_full found e full =
            sym (no_wrap same hash caller setting w c blocks map p f.0 f.2) ∙ ap (λ n. (n + p.done) % 2 ^ 64) (sym e) ∙ eqb-true _ _ full
            ∙ len_is hash w.memory c blocks setting.root map.map.shows p.source c.first f.0.0

        told : (found : ℕ) → found ≡ c.copied (suc c.first)
            → ((((found + p.done) % 2 ^ 64 == p.source.len) ≡ true) × (end ≡ (record p { place = 0; end = 0; done = 0; stands = at.Promotes }, Goes)))
            ⊎ (end ≡ (behind (record p { done = 0 }), Goes)) → CopierOutcome (counted_world w c p) caller setting (counted_chart caller c p) blocks same hash end
        told found e (inl h) = subst (CopierOutcome (counted_world w c p) caller setting (counted_chart caller c p) blocks same hash) (sym h.1)
            (record {
              setting_is = is;
              point = (c.first, copies, refl, none_left same hash caller setting w c blocks map p f.0 f.2 (counted_world w c p), none, λ root. all_counted (is_full found e h.0));
            })
        told found e (inr h) = subst (CopierOutcome (counted_world w c p) caller setting (counted_chart caller c p) blocks same hash) (sym h)
            (behind_facts same hash (counted_world w c p) caller setting (counted_chart caller c p) blocks bits none (record p { done = 0 }) is c.first copies refl
            (none_left same hash caller setting w c blocks map p f.0 f.2 (counted_world w c p)) f.4)

  module _ (word : ℕ) (fault : Fault) (f : CopyingFacts same hash w caller setting c blocks p (at.Tallies word fault)) where
    abbrev works : Works same hash w caller setting c blocks p f.0 f.1 word
    works = f.2

    pub may_tallies : May Can Took value_at w.memory (tallies p word fault)
    may_tallies = may_add w.memory (λ out. to (record p { done = 0; stands = at.Unmarks word fault })) (at_word p.target COPIED) p.done
        (is_some_of _ _ (copied_word same hash caller setting w c blocks map p works.copies works.has_done)) (λ found read. tt)

    pub went_tallies : IsLawful same (spot_of hash) → is_incremental setting.mode ≡ true
        → (m2 : Mem (Node K V)) (end : Copier × Yielding (Node K V) Table) → Steps Took value_at w.memory (tallies p word fault) m2 end → CopierMoved same hash caller setting w c blocks (MovedCounts hash caller c p) m2 end
    went_tallies lawful bits m2 end steps =
        let s = added w.memory (λ out. to (record p { done = 0; stands = at.Unmarks word fault })) (at_word p.target COPIED) p.done m2 end steps in
        count_wrote same hash caller setting w c blocks map p works.copies works.has_done lawful bits m2 end s.0 s.1 s.2 (λ found. told s.3)
      where
        works_counted : Works same hash (counted_world w c p) caller setting (counted_chart caller c p) blocks (record p { done = 0; stands = at.Unmarks word fault }) f.0 f.1 word
        works_counted = record {
          copies = (
            entered_counted same hash caller setting w c blocks map p works.copies works.has_done p.source c.first works.copies.0,
            entered_counted same hash caller setting w c blocks map p works.copies works.has_done p.target (suc c.first) works.copies.1,
          );
          has_done = none_left same hash caller setting w c blocks map p works.copies works.has_done (counted_world w c p);
          claims = (
            counted_here caller (suc c.first) c.share (λ d. d p.place ≡ Claimed caller) (rw works.claims.0 refl),
            claims_kept same hash caller setting w c blocks map p works.copies works.has_done (λ j. j ≡ p.place) works.claims.1,
          );
          in_range = works.in_range;
          settled = works.settled;
          borrowed = works.borrowed;
          place = works.place;
          key = works.key;
          word_is = works.word_is;
        }

        told : end ≡ (record p { done = 0; stands = at.Unmarks word fault }, Goes) → CopierOutcome (counted_world w c p) caller setting (counted_chart caller c p) blocks same hash end
        told e = subst (CopierOutcome (counted_world w c p) caller setting (counted_chart caller c p) blocks same hash) (sym e) (record { setting_is = is; point = ((f.0, f.1, works_counted, f.3), refl) })
