use Rattle.law_committed.specs.Laws.Counts.{no_alphas}
use Rattle.law_soundness.specs.Laws.Counts.{few_row_alphas, few_table_alphas, few_table_zetas}
use Rattle.law_soundness.specs.Laws.Few.{alphas_of_any, chunks_of_any, zetas_of_any}
use Rattle.law_soundness.specs.Laws.Over.{own_laws}
use Rattle.law_soundness.proofs.data.few_are_unlucky.Goals as goal

pub returns-clause-row_alphas : goal.returns-clause-row_alphas
returns-clause-row_alphas g c setting over t row alphas some distinct unlucky =
    few_row_alphas setting.field setting.extension setting.two_adicity g.E.FieldCore.inv (own_laws _ _ _ setting over g.E.FieldCore.inv c.fields_have_laws.ensures) t row alphas some distinct unlucky

pub returns-clause-none : goal.returns-clause-none
returns-clause-none g c setting t alpha none unlucky = no_alphas setting.field setting.extension t.table t.trees alpha none unlucky

pub returns-clause-table_alphas : goal.returns-clause-table_alphas
returns-clause-table_alphas g c setting over t alphas distinct unlucky =
    few_table_alphas setting.field setting.extension setting.two_adicity g.E.FieldCore.inv (own_laws _ _ _ setting over g.E.FieldCore.inv c.fields_have_laws.ensures) t alphas distinct unlucky

pub returns-clause-table_zetas : goal.returns-clause-table_zetas
returns-clause-table_zetas g c setting over t alpha zetas fits low distinct unlucky =
    few_table_zetas setting.field setting.extension setting.two_adicity g.E.FieldCore.inv (own_laws _ _ _ setting over g.E.FieldCore.inv c.fields_have_laws.ensures) t alpha zetas fits low distinct unlucky

pub returns-clause-chunks : goal.returns-clause-chunks
returns-clause-chunks g c setting log_blowup s p i unmasked = chunks_of_any setting log_blowup s p i unmasked

pub returns-clause-alphas : goal.returns-clause-alphas
returns-clause-alphas g c setting log_blowup s p over alphas distinct unlucky =
    alphas_of_any setting log_blowup s p g.E.FieldCore.inv (own_laws _ _ _ setting over g.E.FieldCore.inv c.fields_have_laws.ensures) alphas distinct unlucky

pub returns-clause-zetas : goal.returns-clause-zetas
returns-clause-zetas g c setting log_blowup s p over alpha zetas fit low distinct unlucky =
    zetas_of_any setting log_blowup s p g.E.FieldCore.inv (own_laws _ _ _ setting over g.E.FieldCore.inv c.fields_have_laws.ensures) alpha zetas fit low distinct unlucky
