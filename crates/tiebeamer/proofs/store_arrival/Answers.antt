use Rattle.std.proofs.Common.{refl}
use Rattle.terms.specs.declared.Phase.TheVariants.{PuttingIn, TakingOut, Settling}
use Rattle.terms.specs.declared.PutStage.TheVariants.{PutParent}
use Rattle.terms.specs.declared.TakeStage.TheVariants.{TakeGrand}
use Rattle.terms.specs.declared.SettleStage.TheVariants.{SettleGrand}
use Rattle.tiebeamer.proofs.Walks.{detail_is, next-own, on-own, lost-stored, on-stored, puts-stored, takes_stored, settles_stored, ends-stored}
use Rattle.tiebeamer.proofs.store_arrival.Goals as goal

pub store_turn-requires : goal.store_turn-requires
store_turn-requires c = (c.requires.0.0, c.requires.1, c.requires.2)

pub invariant_of-w : goal.invariant_of-w
invariant_of-w c = record { coded = on-own c.args.w.now.numbers.now c.args.w.now.coded c.args.i c.args.k c.requires.0 c.args.q _ (detail_is c.args.w.now.numbers.now c.args.w.now.coded c.args.i c.args.k c.requires.0) _ c.put_first.ensures }

pub invariant_of-w-in-Puts : goal.invariant_of-w-in-Puts
invariant_of-w-in-Puts c = record { coded = next-own c.args.w.now.numbers.now c.args.w.now.coded c.args.i c.args.k c.requires.0 3 0 c.args.q (PuttingIn c.args.q PutParent) refl _ c.put_first-in-Puts.ensures }

pub invariant_of-w-in-Takes : goal.invariant_of-w-in-Takes
invariant_of-w-in-Takes c = record { coded = next-own c.args.w.now.numbers.now c.args.w.now.coded c.args.i c.args.k c.requires.0 4 0 c.args.q (TakingOut c.args.q TakeGrand) refl _ c.put_first-in-Takes.ensures }

pub invariant_of-w-in-Settles : goal.invariant_of-w-in-Settles
invariant_of-w-in-Settles c = record { coded = next-own c.args.w.now.numbers.now c.args.w.now.coded c.args.i c.args.k c.requires.0 5 0 c.args.q (Settling c.args.q SettleGrand) refl _ c.put_first-in-Settles.ensures }

pub returns-in-Lost : goal.returns-in-Lost
returns-in-Lost c = (lost-stored c.args.w.now.numbers.now c.args.w.now.coded c.args.i c.args.k c.requires.0 c.args.q c.args.a c.in-Lost.is, refl)

pub returns-in-On : goal.returns-in-On
returns-in-On c = (on-stored c.args.w.now.numbers.now c.args.w.now.coded c.args.i c.args.k c.requires.0 c.args.q c.args.a c.in-On.is _ (detail_is c.args.w.now.numbers.now c.args.w.now.coded c.args.i c.args.k c.requires.0) _ c.put_first.ensures, refl)

pub returns-in-Puts : goal.returns-in-Puts
returns-in-Puts c = (puts-stored c.args.w.now.numbers.now c.args.w.now.coded c.args.i c.args.k c.requires.0 c.args.q c.args.a c.in-Puts.is _ c.put_first-in-Puts.ensures, refl)

pub returns-in-Takes : goal.returns-in-Takes
returns-in-Takes c = (takes_stored c.args.w.now.numbers.now c.args.w.now.coded c.args.i c.args.k c.requires.0 c.args.q c.args.a c.in-Takes.is _ c.put_first-in-Takes.ensures, refl)

pub returns-in-Settles : goal.returns-in-Settles
returns-in-Settles c = (settles_stored c.args.w.now.numbers.now c.args.w.now.coded c.args.i c.args.k c.requires.0 c.args.q c.args.a c.in-Settles.is _ c.put_first-in-Settles.ensures, refl)

pub returns-in-Ends : goal.returns-in-Ends
returns-in-Ends c = (ends-stored c.args.w.now.numbers.now c.args.w.now.coded c.args.i c.args.k c.requires.0 c.args.q c.args.a _ c.in-Ends.is _ _ c.store_turn.ensures.0, c.store_turn.ensures.1)
