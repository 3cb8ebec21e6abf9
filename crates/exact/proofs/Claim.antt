-- The whole claim: `claim`. Each clause is a theorem of its own, of the meter's crate or of this one.
use mathlib.Core.Path.{sym, subst}
use Rattle.block.proofs.Laws.{host_given}
use Rattle.block.proofs.Made.{write_given, unwritten, afresh}
use Rattle.level.proofs.Laws.{facts}
use Rattle.rate.proofs.Laws.{row_keeps}
use Rattle.thresholds.proofs.Laws.{built_in_is, built_in_past, loaded}
use Rattle.crossing.proofs.BuiltIn.{built_in_level}
use Rattle.meter.specs.Opened.{Fresh}
use Rattle.meter.proofs.Laws.{open_given, chunk_given, block_given, report_given, refused_chunk, refused_block, report_meter, refused_report_lem, refused_open, zeros_chunk, zeros_block, zeros_report, opened, fresh_fields, factor_never_above, percent_never_smaller, block_taken, block_samples, chunk_samples, empty_chunk, levels_exist}
use Rattle.meter.proofs.Outcome.{answered}
use Rattle.exact.specs.Claim.{Claim}
use Rattle.exact.specs.Demands.{Demand1, Demand2}
use Rattle.exact.proofs.Calls.{accepted_setting, usual_opens}
use Rattle.exact.proofs.Crossings.{unaffected}
use Rattle.exact.proofs.Demand3.{demand3}
use Rattle.exact.proofs.Envelope.{envelope_bound_lem}
use Rattle.exact.proofs.Lost.{nothing_lost, measured}
use Rattle.exact.proofs.Margins.{any_margin}
use Rattle.exact.proofs.NoOffset.{no_offset}
use Rattle.exact.proofs.TwoCards.{two_cards}
use Rattle.exact.proofs.Written.{reads_back}

demand1 : Demand1
demand1 =
    record {
      nothing_lost = nothing_lost;
      open_number = open_given;
      chunk_number = chunk_given;
      block_number = block_given;
      report_number = report_given;
      host_number = host_given;
      write_number = write_given;
      chunk_refused = refused_chunk;
      block_refused = refused_block;
      report_hands_back = report_meter;
      report_refused = refused_report_lem;
      open_refused = refused_open;
      zeros_chunk = zeros_chunk;
      zeros_block = zeros_block;
      zeros_report = zeros_report;
      write_refused = unwritten;
    }

demand2 : Demand2
demand2 =
    record {
      opened = λ c z. subst (Fresh c) (sym (opened c z)) (fresh_fields c (loaded _ (accepted_setting c z).list).most);
      measured = measured;
      no_offset = no_offset;
      any_margin = any_margin;
      built_in = built_in_is;
      built_in_past = built_in_past;
      built_in_levels = built_in_level;
      usual_opens = usual_opens;
      reported = answered;
      factor = factor_never_above;
      unaffected = unaffected;
      percent_never_falls = percent_never_smaller;
      block_taken = block_taken;
      block_samples = λ m b z. block_samples m b ((block_taken m b).0 z);
      written = reads_back;
      afresh = λ b buffer a s e l. afresh b a s buffer l e;
      chunk_samples = chunk_samples;
      empty_chunk = empty_chunk;
    }

pub claim : Claim
claim =
    record {
      demand1 = demand1;
      demand2 = demand2;
      demand3 = demand3;
      facts = facts;
      levels_exist = levels_exist;
      rates = row_keeps;
      envelope = envelope_bound_lem;
      two_cards = two_cards;
    }
