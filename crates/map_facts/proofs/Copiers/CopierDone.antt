-- In blocking mode, a copier is done with a place of its range, and knows what it goes on with.
use Rattle.std.specs.Prelude.{nat_lt}
use Rattle.std.proofs.Common.{◌≡◌, ℕ, ◌+◌, ◌-◌, ◌%◌, ◌^◌, ◌<◌, ◌≤◌, ◌==◌, Bool, true, false, refl, arith}
use Rattle.std.proofs.lemmas.Bool.{ltb-true, ltb-false, ne_eqb}
use Rattle.papaya_raw.specs.Given.SeizeWorld.{World}
use Rattle.papaya_raw.specs.Given.TablesDeclared.node.Node.{Node}
use Rattle.papaya_raw.specs.Given.TablesDeclared.setting.Setting.{Setting}
use Rattle.map_rule.specs.Given.ResizeDeclared.copier.Copier.{Copier}
use Rattle.map_rule.specs.Given.ResizeDeclared.copier.Copying.TheVariants as at
use Rattle.map_rule.specs.Given.ResizeCopierStates.{place_done}
use Rattle.map_rule.specs.Chart.{Place, Done, Chart, put_in}
use Rattle.map_rule.specs.Words.{Blocks}
use Rattle.map_facts.specs.FactsCopiesBlocking.{CopiesInto, HasDoneIn, ClaimsRange, CopyingFactsBlocking}
use Rattle.map_facts.specs.FactsAloneBlocking.{AllAborted, AllUncounted, AloneBlocking}
use Rattle.map_facts.proofs.Copiers.CopierMoves.{copies_again}
use Rattle.map_rule.proofs.Shares.CopiersShares.{done_fits}
use Rattle.map_rule.proofs.Shares.SharesBlocking.{one_done, done_elsewhere, range_within, range_alone}

module _ {K V : Type 0} (same : K → K → Bool) (hash : K → ℕ) (caller : ℕ) (setting : Setting) (w w2 : World (Node K V)) (c : Chart K) (blocks : Blocks) (p : Copier)
    (setting_is : p.setting ≡ setting) (few : c.len c.first ≤ 2 ^ 48)
    (t : ℕ) (copies : CopiesInto same hash w caller setting c blocks p t) (done : HasDoneIn same hash w caller setting c blocks t p.done)
    (claims : ClaimsRange same hash w caller setting c blocks t p.place p.end) (inside : (p.place < p.end) × (p.end ≤ c.len c.first))
    (places : ℕ → ℕ → Place) where
  -- its share of the place is done
  abbrev pub done_chart : Chart K
  done_chart = record c { place = places; share = put_in c.share t p.place (Done caller) }

  pub record GoesOn : Type 0 where
    pub next : Copier
    pub next_is : place_done p ≡ next
    pub setting_stays : next.setting ≡ setting
    pub point : CopyingFactsBlocking same hash w2 caller setting done_chart blocks next next.stands
    pub alone : AllAborted done_chart × AllUncounted done_chart × (p.spent ≡ false) → AloneBlocking done_chart next next.stands

  small : (p.done + 1) % 2 ^ 64 ≡ p.done + 1
  small = let most = done_fits caller (c.share t) (c.len c.first) in omega (arith, done.0, most, few)

  copies_on : CopiesInto same hash w2 caller setting done_chart blocks p t
  copies_on = copies_again same hash caller setting w w2 c done_chart blocks refl refl refl refl p t copies

  done_on : HasDoneIn same hash w2 caller setting done_chart blocks t ((p.done + 1) % 2 ^ 64)
  done_on = (
    (let more = one_done caller c.share t p.place (c.len c.first) (claims.0 p.place (omega arith) inside.0) (omega (arith, inside.0, inside.1)) in
        omega (arith, small, more, done.0)),
    λ u j late ne. done_elsewhere caller c.share t p.place u j ne (done.1 u j late ne),
  )

  claims_on : ClaimsRange same hash w2 caller setting done_chart blocks t (p.place + 1) p.end
  claims_on = (λ j low high. range_within caller c.share t p.place p.end j claims.0 low high, λ j mine. range_alone caller c.share t p.place p.end j claims.1 mine)

  pub goes_on : GoesOn
  goes_on = by_place (nat_lt p.place (p.end - 1)) refl
    where
      some : ((p.done + 1) % 2 ^ 64 == 0) ≡ false
      some = ne_eqb ((p.done + 1) % 2 ^ 64) 0 (omega (arith, small))

      by_place : (b : Bool) → nat_lt p.place (p.end - 1) ≡ b → GoesOn
      by_place true e = record {
        next = record p { done = (p.done + 1) % 2 ^ 64; place = p.place + 1; stands = at.Marks };
        next_is = rw e refl;
        setting_stays = setting_is;
        point = (t, copies_on, done_on, claims_on, (let below = ltb-true p.place (p.end - 1) e in omega (arith, below)), inside.1);
        alone = λ a. a;
      }
      by_place false e = record {
        next = record p { done = (p.done + 1) % 2 ^ 64; stands = at.Counts };
        next_is = rw (e, some) refl;
        setting_stays = setting_is;
        point = (
          t,
          copies_on,
          omega (arith, small),
          done_on,
          λ j mine. let range = claims_on.1 j mine in let last = ltb-false p.place (p.end - 1) e in omega (arith, range.0, range.1, last),
        );
        alone = λ a. a;
      }
