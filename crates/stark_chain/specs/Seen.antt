-- Jobs and proof files as the program has them, seen as plain data.
use Rattle.stark_chain.specs.Texts.{FileData, JobData}
use Rattle.stark_chain.specs.declared.file.ChainFile.{ChainFile}
use Rattle.stark_chain.specs.declared.job.ChainJob.{ChainJob}

abbrev pub read_job : ChainJob → JobData
read_job j = record { start = j.start; blocks = j.blocks.items }

abbrev pub read_file : ChainFile → FileData
read_file f = record { log_rows = f.log_rows; start = f.start; end = f.end; proof = f.proof }
