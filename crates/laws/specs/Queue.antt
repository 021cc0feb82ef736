-- Activation decided one by one, in register order: the definition's.
unfoldable pub use Rattle.definitions.specs.RegisterOrder.{ahead, map_below, activated_at, activated}
