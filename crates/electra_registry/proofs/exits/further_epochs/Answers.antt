use mathlib.Core.Path.{refl}
use Rattle.arithmetic.proofs.Laws.{next, passes-on}
use Rattle.definitions_electra.specs.Evaluated.Electra.Helpers.{further_epochs}
use Rattle.electra_registry.proofs.exits.further_epochs.Goals as goal

pub returns-in_err-to_process : goal.returns-in_err-to_process
unfolding further_epochs
returns-in_err-to_process c = passes-on _ c.sub64.ensures c.in_err-to_process.was c.from_residual.ensures

pub returns-in_err-less : goal.returns-in_err-less
unfolding further_epochs
returns-in_err-less c = next _ c.sub64.ensures c.in_ok-to_process.was (passes-on _ c.sub64-2.ensures c.in_err-less.was c.from_residual-in_err-less.ensures)

pub returns-in_err-additional : goal.returns-in_err-additional
unfolding further_epochs
returns-in_err-additional c = next _ c.sub64.ensures c.in_ok-to_process.was (next _ c.sub64-2.ensures c.in_ok-less.was (passes-on _ c.add64.ensures c.in_err-additional.was c.from_residual-in_err-additional.ensures))

pub returns-in_err-later : goal.returns-in_err-later
unfolding further_epochs
returns-in_err-later c = next _ c.sub64.ensures c.in_ok-to_process.was (next _ c.sub64-2.ensures c.in_ok-less.was (next _ c.add64.ensures c.in_ok-additional.was (passes-on _ c.add64-2.ensures c.in_err-later.was c.from_residual-in_err-later.ensures)))

pub returns-in_err-product : goal.returns-in_err-product
unfolding further_epochs
returns-in_err-product c = next _ c.sub64.ensures c.in_ok-to_process.was (next _ c.sub64-2.ensures c.in_ok-less.was (next _ c.add64.ensures c.in_ok-additional.was (next _ c.add64-2.ensures c.in_ok-later.was (passes-on _ c.mul64.ensures c.in_err-product.was c.from_residual-in_err-product.ensures))))

pub returns-in_err-more : goal.returns-in_err-more
unfolding further_epochs
returns-in_err-more c = next _ c.sub64.ensures c.in_ok-to_process.was (next _ c.sub64-2.ensures c.in_ok-less.was (next _ c.add64.ensures c.in_ok-additional.was (next _ c.add64-2.ensures c.in_ok-later.was (next _ c.mul64.ensures c.in_ok-product.was (passes-on _ c.add64-3.ensures c.in_err-more.was c.from_residual-in_err-more.ensures)))))

pub returns-in_err-left : goal.returns-in_err-left
unfolding further_epochs
returns-in_err-left c = next _ c.sub64.ensures c.in_ok-to_process.was (next _ c.sub64-2.ensures c.in_ok-less.was (next _ c.add64.ensures c.in_ok-additional.was (next _ c.add64-2.ensures c.in_ok-later.was (next _ c.mul64.ensures c.in_ok-product.was (next _ c.add64-3.ensures c.in_ok-more.was (passes-on _ c.sub64-3.ensures c.in_err-left.was c.from_residual-in_err-left.ensures))))))

pub returns : goal.returns
unfolding further_epochs
returns c = next _ c.sub64.ensures c.in_ok-to_process.was (next _ c.sub64-2.ensures c.in_ok-less.was (next _ c.add64.ensures c.in_ok-additional.was (next _ c.add64-2.ensures c.in_ok-later.was (next _ c.mul64.ensures c.in_ok-product.was (next _ c.add64-3.ensures c.in_ok-more.was (next _ c.sub64-3.ensures c.in_ok-left.was refl))))))
