-- The book that a core has inside.
use Rattle.replay_core.specs.Book.{Book}
use Rattle.replay_core.specs.declared.book.Core.TheInside.{Inside}

abbrev pub book_of : Inside → Book
book_of core = record {
  first = core.first;
  window = core.window;
  restarts = core.restarts;
  drawn = core.drawn;
  stale = core.stale;
  is_stopping = core.is_stopping;
  outs = core.outs.items;
  accounts = core.accounts.items;
}
