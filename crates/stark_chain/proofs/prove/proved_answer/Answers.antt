use Rattle.std.proofs.Common.{◌≡◌, ◌∙◌, ◌^◌, length, ap, sym}
use Rattle.chain_air.specs.Generated.{end_of}
use Rattle.stark_chain.specs.Seen.{read_job}
use Rattle.stark_chain.proofs.Answering.{proved_is, stated_accepted, stated_height}
use Rattle.stark_chain.proofs.prove.proved_answer.Goals as goal

pub accepted_means-requires-clause-height : goal.accepted_means-requires-clause-height
accepted_means-requires-clause-height c =
    let job = read_job c.args.job.now in
    let size : length job.blocks ≡ 2 ^ c.log_rows_of-log_rows.result = ap length (sym c.deref.ensures.value) ∙ c.log_rows_of-log_rows.ensures.size in
    let last : c.chain_end-end.result ≡ end_of job.start job.blocks = c.chain_end-end.ensures ∙ ap (end_of job.start) c.deref-2.ensures.value in
    stated_height job c.requires.within c.args.proof c.requires.proof c.log_rows_of-log_rows.result size c.chain_end-end.result last

pub accepted_means-requires-clause-accepted : goal.accepted_means-requires-clause-accepted
accepted_means-requires-clause-accepted c =
    let job = read_job c.args.job.now in
    let size : length job.blocks ≡ 2 ^ c.log_rows_of-log_rows.result = ap length (sym c.deref.ensures.value) ∙ c.log_rows_of-log_rows.ensures.size in
    let last : c.chain_end-end.result ≡ end_of job.start job.blocks = c.chain_end-end.ensures ∙ ap (end_of job.start) c.deref-2.ensures.value in
    stated_accepted job c.requires.within c.args.proof c.requires.proof c.log_rows_of-log_rows.result size c.chain_end-end.result last

pub returns : goal.returns
returns c =
    let job = read_job c.args.job.now in
    let size : length job.blocks ≡ 2 ^ c.log_rows_of-log_rows.result = ap length (sym c.deref.ensures.value) ∙ c.log_rows_of-log_rows.ensures.size in
    let last : c.chain_end-end.result ≡ end_of job.start job.blocks = c.chain_end-end.ensures ∙ ap (end_of job.start) c.deref-2.ensures.value in
    proved_is job c.requires.within c.args.proof c.requires.proof c.log_rows_of-log_rows.result size c.chain_end-end.result last
    c.baby_bear_has_laws.ensures c.chaining_fits.ensures c.accepted_means.ensures c.in_ok-text.text.items c.in_ok-text.ensures.text
