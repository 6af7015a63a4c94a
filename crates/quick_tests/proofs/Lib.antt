pub mod QuickTests
