use Rattle.lockfree_tests.proofs.relays.a_text_goes_from_thread_to_thread.Given as goal

abbrev pub ghosts-exchange : goal.ghosts-exchange
ghosts-exchange g a = record { log = a.bytes.now }
