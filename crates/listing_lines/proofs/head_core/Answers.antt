use Rattle.listing_lines.proofs.head_core.Goals as goal

pub returns : goal.returns
returns c = rw (← c.current_epoch-epoch.ensures, ← c.charged_count-charged.ensures, ← c.raised_totals-raised.ensures)
